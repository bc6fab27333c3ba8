-- The lines of a share and of a heap with room.
use Rattle.std.specs.Prelude.{◌≡◌, ℕ, Bool, true, false, ◌&&◌, is_some, Option, None, Some, [], ◌∷◌, codes, MatchOption}
use Rattle.mh_model.specs.{Bytes.{Text, joined, lines_text}, Replies.optional_word}
use Rattle.mh_orders.specs.declared.{room_options.RoomOptions.RoomOptions, target_options.Given.Given}
use Rattle.mh_orders.specs.declared.target_options.Given.TheVariants.{Every, Nothing, Quantum}
use Rattle.mh_orders.specs.declared.{target_options.Target.Target, target_options.TargetOptions.TargetOptions}
use Rattle.mh_size_counts.specs.Choices.{HasNone, IsGreatestQuantum, IsLeastEvery}
use Rattle.mh_size_counts.specs.{Room.{HasRoom, IsRoomForAll, IsRoomHeap}, Targets.{Meets, MeetsAfter, MeetsWith}}
use Rattle.mh_size_counts.specs.{declared.room.RoomHeap.RoomHeap, declared.target.Choice.Choice}

-- a word and a number, or `none`
abbrev pub optional_line : Text → Option ℕ → Text
optional_line word number = joined (word ∷ optional_word number ∷ [])

-- Targets ----------------------------------------------------------------------------------------

-- What keeps a target: the greatest quantum for a given number of units between two, the least such number for a given quantum, and otherwise the greatest
-- quantum of all with the least number for it
abbrev pub IsChoice : Target → Given → Choice → Type 0
IsChoice target (Every every) choice = (choice.every ≡ Some every) × MatchOption choice.quantum (HasNone (MeetsAfter target every)) (IsGreatestQuantum (MeetsAfter target every))
IsChoice target (Quantum quantum) choice = (choice.quantum ≡ Some quantum) × MatchOption choice.every (HasNone (MeetsWith target quantum)) (IsLeastEvery (MeetsWith target quantum))
IsChoice target Nothing choice =
    MatchOption choice.quantum
    (HasNone (Meets target) × (choice.every ≡ None))
    (λ quantum. IsGreatestQuantum (Meets target) quantum × MatchOption choice.every (HasNone (MeetsWith target quantum)) (IsLeastEvery (MeetsWith target quantum)))

-- What is written of a target: the lines of a quantum and of the units between two, each a number or `none`; and whether both are numbers
pub record IsTargetText (options : TargetOptions) (text : Text) (is_found : Bool) : Type 0 where
  pub choice : Choice
  pub chosen : IsChoice options.target options.given choice
  pub lines : text ≡ lines_text (optional_line (codes "quantum") choice.quantum ∷ optional_line (codes "every") choice.every ∷ [])
  pub found : is_found ≡ is_some choice.quantum && is_some choice.every

-- Room -------------------------------------------------------------------------------------------

-- what is written of a heap
abbrev pub heap_text : RoomHeap → Text
heap_text heap =
    lines_text (optional_line (codes "opens") (Some heap.opens) ∷ optional_line (codes "trigger") (Some heap.trigger) ∷ optional_line (codes "pages") (Some heap.pages) ∷ [])

-- What is written of the heap with the fewest pages that has room for all programs of which the counts are so; or that there is none
abbrev pub IsRoomText : RoomOptions → Text → Bool → Type 0
IsRoomText options text true = (heap : RoomHeap) × IsRoomHeap options heap × IsRoomForAll options heap × (text ≡ heap_text heap)
IsRoomText options text false = HasNone (HasRoom options) × (text ≡ lines_text (optional_line (codes "pages") None ∷ []))
