-- Fields and accounts as lines, in words or as JSON.
use Rattle.std.specs.Prelude.{ℕ, ◌+◌, ◌-◌, Bool, true, false, Option, Some, None, List, [], ◌∷◌, ◌++◌, flat_map, map, codes, decimal}
use Rattle.mh_model.specs.{declared.config.Config.Config, declared.deed.Deed.Deed, declared.deed.QuantumEnd.QuantumEnd}
use Rattle.mh_model.specs.{declared.history.Entry.Entry, Bytes.{Text, joined, joined_at, line_text}}
use Rattle.mh_model.specs.{Deeds.{Account, Ran, deed_units}, HistoryTexts.{entry_words, event_words, rules_number}}
use Rattle.mh_model.specs.{Pages.{page_number, slot_number}, Replies.reply_text}
use Rattle.mh_orders.specs.declared.steps.StepsForm.{StepsForm}
use Rattle.mh_tell_steps.specs.{declared.figures.HeapCounts.HeapCounts, declared.figures.EventSpan.EventSpan}
use Rattle.mh_tell_steps.specs.Fields.{Value, Number, At, Word, Flag, Nothing, Field, deed_verb, deed_fields, cost_fields, end_fields}
use Rattle.mh_tell_steps.specs.Figures.{at_field, counts_fields, mutator_field, quantum_at}

-- Values -----------------------------------------------------------------------------------------

-- `PAGE.SLOT`
abbrev pub place_text : ℕ → Text
place_text place = decimal (page_number place) ++ 46 ∷ decimal (slot_number place)

-- a text between quotation marks
abbrev pub quoted : Text → Text
quoted text = 34 ∷ (text ++ 34 ∷ [])

-- a word as it stands, or as a string of JSON. No text here has a quotation mark, a backslash or a control character, which JSON would write otherwise
abbrev pub word_text : StepsForm → Text → Text
word_text StepsForm.Text word = word
word_text StepsForm.Json word = quoted word

-- yes or no in words, or as JSON writes it
abbrev pub flag_text : StepsForm → Bool → Text
flag_text StepsForm.Text true = codes "yes"
flag_text StepsForm.Text false = codes "no"
flag_text StepsForm.Json true = codes "true"
flag_text StepsForm.Json false = codes "false"

-- that there is nothing, in words or as JSON
abbrev pub nothing_text : StepsForm → Text
nothing_text StepsForm.Text = codes "none"
nothing_text StepsForm.Json = codes "null"

-- a value in words or as JSON
abbrev pub value_text : StepsForm → Value → Text
value_text form (Number n) = decimal n
value_text form (At place) = word_text form (place_text place)
value_text form (Word word) = word_text form word
value_text form (Flag flag) = flag_text form flag
value_text form Nothing = nothing_text form

-- a key with what parts it from the value before it and from its own
abbrev pub key_text : StepsForm → Text → Text
key_text StepsForm.Text key = 32 ∷ (key ++ 32 ∷ [])
key_text StepsForm.Json key = 44 ∷ (quoted key ++ 58 ∷ [])

-- a field in words or as JSON, and fields in turn
abbrev pub field_text : StepsForm → Field → Text
field_text form field = key_text form field.key ++ value_text form field.value

abbrev pub fields_text : StepsForm → List Field → Text
fields_text form fields = flat_map (field_text form) fields

-- fields that tools alone read
abbrev pub tool_text : StepsForm → List Field → Text
tool_text StepsForm.Text fields = []
tool_text StepsForm.Json fields = fields_text StepsForm.Json fields

-- Lines ------------------------------------------------------------------------------------------

-- how each object begins: with the number of its event
abbrev pub event_key : ℕ → Text
event_key number = codes "{\"event\":" ++ decimal number

-- how the line of a deed begins
abbrev pub deed_head : StepsForm → Text → ℕ → Text → Text
deed_head StepsForm.Text indent number verb = indent ++ verb
deed_head StepsForm.Json indent number verb = event_key number ++ (key_text StepsForm.Json (codes "deed") ++ quoted verb)

-- how the line of a quantum begins
abbrev pub quantum_head : StepsForm → ℕ → Text
quantum_head StepsForm.Text number = codes "  quantum"
quantum_head StepsForm.Json number = event_key number ++ codes ",\"quantum\":\"ran\""

-- how each of them ends
abbrev pub line_end : StepsForm → Text
line_end StepsForm.Text = codes "\n"
line_end StepsForm.Json = codes "}\n"

-- A deed of the command of the event of this number
abbrev pub deed_line : StepsForm → ℕ → Deed → Text
deed_line form number deed = deed_head form (codes "  ") number (deed_verb deed) ++ (fields_text form (deed_fields deed) ++ line_end form)

-- A deed of its quantum, before which the trace has so many units, and after which so many are left
abbrev pub paid_line : StepsForm → ℕ → ℕ → ℕ → Deed → Text
paid_line form number at left deed =
    deed_head form (codes "    ") number (deed_verb deed) ++ (fields_text form (deed_fields deed) ++ (fields_text form (cost_fields deed left) ++ (tool_text form (at_field at ∷ []) ++ line_end form)))

-- the deeds in order of a quantum of so many units, which began after so many, and of which so many are left. It has spent the rest
abbrev pub paid_lines : StepsForm → ℕ → ℕ → ℕ → ℕ → List Deed → Text
paid_lines form number began quantum left [] = []
paid_lines form number began quantum left (deed ∷ deeds) =
    paid_line form number (began + (quantum - left)) (left - deed_units deed) deed ++ paid_lines form number began quantum (left - deed_units deed) deeds

-- that a quantum was run, with what it spent and the phase that it ended in; where it began, and what it left in the heap
abbrev pub quantum_line : StepsForm → EventSpan → HeapCounts → QuantumEnd → Text
quantum_line form moment counts ended =
    quantum_head form moment.number ++ (fields_text form (end_fields ended) ++ (tool_text form (at_field (quantum_at moment) ∷ []) ++ (tool_text form (counts_fields counts) ++ line_end form)))

-- a quantum of so many units, if one was run
abbrev pub quantum_lines : StepsForm → EventSpan → HeapCounts → ℕ → Option Ran → Text
quantum_lines form moment counts quantum None = []
quantum_lines form moment counts quantum (Some ran) = quantum_line form moment counts ran.ended ++ paid_lines form moment.number (quantum_at moment) quantum quantum ran.deeds

-- The account of the event of this moment, which left these counts, under a configuration with so many units to a quantum
abbrev pub account_text : StepsForm → EventSpan → HeapCounts → ℕ → Account → Text
account_text form moment counts quantum account = flat_map (deed_line form moment.number) account.command ++ quantum_lines form moment counts quantum account.quantum

-- An event with its reply: its number and its entry in a history, or an object with all three and its place in the trace
abbrev pub entry_line : StepsForm → EventSpan → Entry → Text
entry_line StepsForm.Text moment entry = decimal moment.number ++ 32 ∷ line_text (joined (entry_words entry))
entry_line StepsForm.Json moment entry =
    event_key moment.number ++ (key_text StepsForm.Json (codes "text") ++ (quoted (joined (event_words entry.event)) ++ (key_text StepsForm.Json (codes "reply") ++ (quoted (reply_text entry.reply)
    ++ (field_text StepsForm.Json (at_field moment.at) ++ (field_text StepsForm.Json (mutator_field moment.mutator) ++ line_end StepsForm.Json))))))

-- The configuration with its rules, which tools are given first
abbrev pub config_line : StepsForm → Config → Text
config_line StepsForm.Text config = []
config_line StepsForm.Json config =
    codes "{\"config\":[" ++ (joined_at 44 (map decimal (config.pages ∷ config.quantum ∷ config.trigger ∷ config.every ∷ [])) ++ (codes "],\"rules\":" ++ (decimal (rules_number config.rules) ++ line_end StepsForm.Json)))
