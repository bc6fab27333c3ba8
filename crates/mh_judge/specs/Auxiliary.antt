-- Auxiliary definitions: what loops, private functions and the insides of types keep. No public contract depends on them.
use Rattle.std.specs.Prelude.{◌≡◌, ℕ, List, length, map}
use Rattle.mh_model.specs.{declared.command.Event.Event, HistoryTexts.machine_record}
use Rattle.mh_model.specs.{Machine.{Machine, machine_replies}, History.IsFirstBadOf, Script.{Reading, BadLine, Means}}
use Rattle.mh_judge.specs.declared.entry_fault.EntryFault.{EntryFault}
use Rattle.mh_judge.specs.{declared.judgement.Judgement.TheVariants.{Legal, Refused, FirstBad}, Faults.HasFault}
use Rattle.mh_judge.specs.Judgements.{HistoryJudgement}

-- what a judgement says of entries that are read: the reason of the bad line, or what is found of the entries
abbrev pub IsJudgement : {X : Type 0} → (ℕ → HistoryJudgement → Type 0) → (List X → Type 0) → (List X → X → EntryFault → Type 0) → Reading (List X) → HistoryJudgement → Type 0
IsJudgement Refusal Lawful Wrong (BadLine line) judgement = Refusal line judgement
IsJudgement Refusal Lawful Wrong (Means entries) (Legal count) = Lawful entries × (count ≡ length entries)
IsJudgement Refusal Lawful Wrong (Means entries) (Refused line reason) = ⊥
IsJudgement Refusal Lawful Wrong (Means entries) (FirstBad number fault) = IsFirstBadOf Lawful entries number × HasFault Wrong entries number fault

-- the law that a record shows the machine's replies, which is proved with the laws of texts
abbrev pub RecordsShowReplies : Type 0
RecordsShowReplies = (machine : Machine) (events : List Event) → map (λ measured. measured.entry.reply) (machine_record machine events) ≡ machine_replies machine events
