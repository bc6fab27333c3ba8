-- What a batch is asked, and what its answers are.
use Rattle.std.specs.Prelude.{◌≡◌, ℕ, Bool, Option, List, []}
use Rattle.mh_model.specs.{Pages.Table, Table.{Block, found_in}}
use Rattle.mh_scan.specs.{Scanning.{lists, settled_in}, declared.answers.Answers.Answers, declared.answers.Asks.Asks}
use Rattle.mh_scan.specs.declared.answers.Asks.TheVariants.{Lists, Settled}

-- where the references of the blocks lead, if a batch asks for that; otherwise nothing
abbrev pub lists_asked : Table Block → Asks → List ℕ → List (List (Option ℕ))
lists_asked table Lists batch = found_in table batch
lists_asked table (Settled cycle) batch = []

-- which of the blocks are settled, if a batch asks for that; otherwise nothing
abbrev pub settled_asked : Table Block → Asks → List ℕ → List Bool
settled_asked table Lists batch = []
settled_asked table (Settled cycle) batch = settled_in table cycle batch

-- the answers of a batch by what it is asked; the list of what isn't asked is empty
pub record AreAnswers (table : Table Block) (asks : Asks) (batch : List ℕ) (answers : Answers) : Type 0 where
  pub lists : lists answers.lists.items ≡ lists_asked table asks batch
  pub settled : answers.settled.items ≡ settled_asked table asks batch
