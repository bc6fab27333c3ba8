-- How a text is cut that follows another.
use Rattle.std.proofs.Common.{◌≡◌, ◌∙◌, ℕ, ◌==◌, Bool, true, false, if◌then◌else◌, List, [], ◌∷◌, ◌++◌, ap, append_assoc, refl, sym}
use Rattle.std.proofs.lemmas.List.{append-nil}
use Rattle.mh_model.specs.Bytes.{Text, Cut, cut_after, with_byte}

-- what follows the last piece of the first goes before the first of the second
abbrev pub followed : Cut → Cut → Cut
followed first second = followed_by second.pieces second.rest where
  followed_by : List Text → Text → Cut
  followed_by [] rest = record { pieces = first.pieces; rest = first.rest ++ rest }
  followed_by (piece ∷ pieces) rest = record { pieces = first.pieces ++ (first.rest ++ piece) ∷ pieces; rest = rest }

-- a cut after one byte more, with the answer to the test whether a piece ends there
abbrev step : ℕ → Bool → Cut → Cut
step byte ends cut = if ends then record { pieces = [] ∷ cut.pieces; rest = cut.rest } else with_byte byte cut

step-followed : (byte : ℕ) (ends : Bool) (pieces : List Text) (rest : Text) (more : List Text) (last : Text)
    → step byte ends (followed (record { pieces = pieces; rest = rest }) (record { pieces = more; rest = last })) ≡ followed (step byte ends (record { pieces = pieces; rest = rest })) (record { pieces = more; rest = last })
step-followed byte true pieces rest [] last = refl
step-followed byte false [] rest [] last = refl
step-followed byte false (first ∷ pieces) rest [] last = refl
step-followed byte ends pieces rest more last = refl

none-followed : (pieces : List Text) (rest : Text) → followed (record { pieces = []; rest = [] }) (record { pieces = pieces; rest = rest }) ≡ record { pieces = pieces; rest = rest }
none-followed [] rest = refl
none-followed (piece ∷ pieces) rest = refl

pub cut-append : (end : ℕ) (text more : Text) → cut_after end (text ++ more) ≡ followed (cut_after end text) (cut_after end more)
cut-append end [] more = sym (none-followed (cut_after end more).pieces (cut_after end more).rest)
cut-append end (byte ∷ text) more =
    ap (step byte (byte == end)) (cut-append end text more)
    ∙ step-followed byte (byte == end) (cut_after end text).pieces (cut_after end text).rest (cut_after end more).pieces (cut_after end more).rest

-- Cuts of longer texts ---------------------------------------------------------------------------

-- a text that ends no line
abbrev pub EndsNoLine : Text → Type 0
EndsNoLine text = cut_after 10 text ≡ record { pieces = []; rest = text }

-- the cut of a text that such bytes follow, and then the end of their line
abbrev pub line_cut : Text → Text → Cut
line_cut text piece = record { pieces = (cut_after 10 text).pieces ++ ((cut_after 10 text).rest ++ piece) ∷ []; rest = [] }

pub cut_line : (text piece : Text) → EndsNoLine piece → cut_after 10 (text ++ (piece ++ 10 ∷ [])) ≡ line_cut text piece
cut_line text piece plain =
    let last : cut_after 10 (piece ++ 10 ∷ []) ≡ record { pieces = (piece ++ []) ∷ []; rest = [] } = cut-append 10 piece (10 ∷ []) ∙ ap (λ c. followed c (cut_after 10 (10 ∷ []))) plain in
    cut-append 10 text (piece ++ 10 ∷ []) ∙ ap (followed (cut_after 10 text)) last
    ∙ ap (λ p. line_cut text p) (append-nil piece)

pub cut_rest : (text more : Text) → EndsNoLine more → cut_after 10 (text ++ more) ≡ record { pieces = (cut_after 10 text).pieces; rest = (cut_after 10 text).rest ++ more }
cut_rest text more plain = cut-append 10 text more ∙ ap (followed (cut_after 10 text)) plain

-- lines that begin with these
pub record BeginsWith (front lines : List Text) : Type 0 where
  pub later : List Text
  pub parts : lines ≡ front ++ later

-- the pieces of a text that another follows begin with those of the first
front_followed : (pieces : List Text) (rest : Text) (more : List Text) (last : Text) → BeginsWith pieces (followed (record { pieces = pieces; rest = rest }) (record { pieces = more; rest = last })).pieces
front_followed pieces rest [] last = record { later = []; parts = sym (append-nil pieces) }
front_followed pieces rest (piece ∷ more) last = record { later = (rest ++ piece) ∷ more; parts = refl }

pub front_of : (text more : Text) → BeginsWith (cut_after 10 text).pieces (cut_after 10 (text ++ more)).pieces
front_of text more =
    let front = front_followed (cut_after 10 text).pieces (cut_after 10 text).rest (cut_after 10 more).pieces (cut_after 10 more).rest in
    record { later = front.later; parts = ap (λ c. c.pieces) (cut-append 10 text more) ∙ front.parts }

pub front_line : (text piece next : Text) → EndsNoLine piece → BeginsWith (line_cut text piece).pieces (cut_after 10 (text ++ (piece ++ 10 ∷ next))).pieces
front_line text piece next plain =
    let same : text ++ (piece ++ 10 ∷ next) ≡ (text ++ (piece ++ 10 ∷ [])) ++ next = sym (append_assoc text (piece ++ 10 ∷ []) next ∙ ap (λ t. text ++ t) (append_assoc piece (10 ∷ []) next)) in
    let front = front_of (text ++ (piece ++ 10 ∷ [])) next in
    record { later = front.later; parts = ap (λ t. (cut_after 10 t).pieces) same ∙ front.parts ∙ ap (λ c. c.pieces ++ front.later) (cut_line text piece plain) }
