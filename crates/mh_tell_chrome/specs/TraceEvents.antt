-- Trace events, as the Trace Event Format of Chrome has them: and their texts.
use Rattle.std.specs.Prelude.{ℕ, List, [], ◌∷◌, ◌++◌, flat_map, codes, decimal}
use Rattle.mh_model.specs.Bytes.{Text}
use Rattle.mh_tell_steps.specs.{Fields.Field, Lines.{quoted, value_text}}
use Rattle.mh_orders.specs.declared.steps.StepsForm.{StepsForm}

-- What a viewer is given. A time is the units of the trace before it, of which each is drawn as a microsecond
pub data TraceEvent : Type 0 where
  Process : Text → TraceEvent
  Thread : ℕ → Text → TraceEvent
  Rank : ℕ → TraceEvent
  Begin : (time thread : ℕ) → Text → List Field → TraceEvent
  End : (time thread : ℕ) → TraceEvent
  Instant : (time thread : ℕ) → Text → List Field → TraceEvent
  Counter : ℕ → Text → List Field → TraceEvent

-- Texts ------------------------------------------------------------------------------------------

-- a field as a member of an object, and fields as members
abbrev pub member_text : Field → Text
member_text field = quoted field.key ++ 58 ∷ value_text StepsForm.Json field.value

abbrev pub members_text : List Field → Text
members_text [] = []
members_text (last ∷ []) = member_text last
members_text (field ∷ next ∷ fields) = member_text field ++ 44 ∷ members_text (next ∷ fields)

-- arguments as a member, if there are any
abbrev pub arguments_text : List Field → Text
arguments_text [] = []
arguments_text (first ∷ fields) = codes ",\"args\":{" ++ (members_text (first ∷ fields) ++ codes "}")

-- what an event of a thread begins with, and what names it
abbrev pub placed_text : Text → ℕ → ℕ → Text
placed_text head time thread = head ++ (codes ",\"ts\":" ++ (decimal time ++ (codes ",\"pid\":1,\"tid\":" ++ decimal thread)))

abbrev pub named_text : Text → List Field → Text
named_text name arguments = codes ",\"cat\":\"metroheap\",\"name\":" ++ (quoted name ++ (arguments_text arguments ++ codes "}"))

-- An event as an object of JSON. Each but names and ends has a category, without which a viewer names counters `undefined`
abbrev pub event_text : TraceEvent → Text
event_text (Process name) = codes "{\"ph\":\"M\",\"pid\":1,\"name\":\"process_name\",\"args\":{\"name\":" ++ (quoted name ++ codes "}}")
event_text (Thread thread name) = codes "{\"ph\":\"M\",\"pid\":1,\"tid\":" ++ (decimal thread ++ (codes ",\"name\":\"thread_name\",\"args\":{\"name\":" ++ (quoted name ++ codes "}}")))
event_text (Rank thread) = codes "{\"ph\":\"M\",\"pid\":1,\"tid\":" ++ (decimal thread ++ (codes ",\"name\":\"thread_sort_index\",\"args\":{\"sort_index\":" ++ (decimal thread ++ codes "}}")))
event_text (Begin time thread name arguments) = placed_text (codes "{\"ph\":\"B\"") time thread ++ named_text name arguments
event_text (End time thread) = placed_text (codes "{\"ph\":\"E\"") time thread ++ codes "}"
event_text (Instant time thread name arguments) = placed_text (codes "{\"ph\":\"i\",\"s\":\"t\"") time thread ++ named_text name arguments
event_text (Counter time name series) = codes "{\"ph\":\"C\",\"ts\":" ++ (decimal time ++ (codes ",\"pid\":1" ++ named_text name series))

-- an event after another, on a line of its own; and such events in turn
abbrev pub next_text : TraceEvent → Text
next_text event = 44 ∷ 10 ∷ event_text event

abbrev pub next_texts : List TraceEvent → Text
next_texts events = flat_map next_text events

-- events as the members of the list that the file is
abbrev pub listed_text : List TraceEvent → Text
listed_text [] = []
listed_text (first ∷ events) = event_text first ++ next_texts events

-- The file of these events, one a line
abbrev pub file_text : List TraceEvent → Text
file_text events = codes "{\"displayTimeUnit\":\"ns\",\"traceEvents\":[\n" ++ (listed_text events ++ codes "\n]}\n")
