-- Auxiliary definitions: what loops, private functions and the insides of types keep. No public contract depends on them.
use Rattle.std.specs.Prelude.{◌≡◌, ◌<◌, ◌≤◌, Bool, true, false, List, length}
use Rattle.mh_model.specs.{declared.birth.TheConstants.LIFE, Trace.TraceState}
use Rattle.mh_window_pauses.specs.{declared.line.PauseLine.PauseLine, declared.log.Traced.Traced, Logs.letters_of_lines}

-- a trace is short, and has no more quanta than letters
pub record IsShort (trace : TraceState) : Type 0 where
  pub short : length trace.letters < LIFE
  pub few : trace.quanta ≤ length trace.letters

-- the trace of some lines, which is kept as long as it is short
abbrev pub IsTraceIf : Bool → List PauseLine → TraceState → Type 0
IsTraceIf true lines trace = trace.letters ≡ letters_of_lines lines
IsTraceIf false lines trace = LIFE ≤ length (letters_of_lines lines)

abbrev pub IsTraceOf : List PauseLine → Traced → Type 0
IsTraceOf lines traced = IsTraceIf traced.is_short lines traced.trace.trace
