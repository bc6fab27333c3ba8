-- The deeds that are left out of a long run draw nothing, and the others tell where the cursor stands.
use Rattle.std.proofs.Common.{◌≡◌, Bool, true, false, not, ◌&&◌, ◌||◌, if◌then◌else◌, Option, Some, None, is_some, unwrap_or, List, [], ◌∷◌, refl, sym, ap, ◌∙◌}
use Rattle.std.proofs.lemmas.Bool.{true≢false}
use Rattle.mh_model.specs.declared.deed.{Deed.Deed, Edge.Edge, Fate.Fate}
use Rattle.mh_tell_laws.specs.Picture.{Picture, shaded_at, with_edge, drawn, drawn_all}
use Rattle.mh_tell_show.specs.Cursor.{Stand, moves_cursor, moves_next, stand_after, stand_of}
use Rattle.mh_tell_show.specs.LeftOut.{KeptDeedsTellTheCursor, LeftOutDeedsDrawNothing, stands, stands_of_kept}
use Rattle.mh_tell_show.specs.Rows.{is_drawn, is_kept, kept_deeds}

-- an edge that shades nothing
not_shaded : (picture : Picture) (edge : Edge) → edge.is_shaded ≡ false → with_edge picture edge ≡ picture
not_shaded picture edge is = ap (λ test. if test then shaded_at picture edge.target else picture) is

-- a deed that isn't drawn
draws_nothing : (picture : Picture) (d : Deed) → is_drawn d ≡ false → drawn picture d ≡ picture
draws_nothing picture (Deed.Root slot edge) is = not_shaded picture edge is
draws_nothing picture (Deed.Reference index edge) is = not_shaded picture edge is
draws_nothing picture (Deed.Pass page) is = refl
draws_nothing picture (Deed.Sweep place Fate.Empty) is = refl
draws_nothing picture (Deed.Sweep place (Fate.Kept name)) is = refl
draws_nothing picture (Deed.Sweep place _) is = absurd (true≢false is)
draws_nothing picture (Deed.Stay place) is = refl
draws_nothing picture Deed.ForwardRoots is = refl
draws_nothing picture _ is = absurd (true≢false is)

-- nor is one that isn't kept
not_kept : (d : Deed) (later : List Deed) → is_kept d later ≡ false → is_drawn d ≡ false
not_kept d later is = go (is_drawn d) is
  where
    go : (test : Bool) → (test || (moves_cursor d && not (moves_next later))) ≡ false → test ≡ false
    go true e = e
    go false e = refl

-- deeds without those
left_out : (deeds : List Deed) (picture : Picture) → drawn_all picture (kept_deeds deeds) ≡ drawn_all picture deeds
left_out [] picture = refl
left_out (d ∷ deeds) picture = go (is_kept d deeds) refl (left_out deeds (drawn picture d)) (left_out deeds picture)
  where
    go : (test : Bool) → is_kept d deeds ≡ test → drawn_all (drawn picture d) (kept_deeds deeds) ≡ drawn_all (drawn picture d) deeds → drawn_all picture (kept_deeds deeds) ≡ drawn_all picture deeds
        → drawn_all picture (if test then d ∷ kept_deeds deeds else kept_deeds deeds) ≡ drawn_all (drawn picture d) deeds
    go true is shown hidden = shown
    go false is shown hidden = hidden ∙ ap (λ p. drawn_all p deeds) (sym (draws_nothing picture d (not_kept d deeds is)))

pub left_out-draws_nothing : LeftOutDeedsDrawNothing
left_out-draws_nothing true deeds picture = refl
left_out-draws_nothing false deeds picture = left_out deeds picture

-- The cursor -------------------------------------------------------------------------------------

-- a deed that moves the cursor moves it to one stand, wherever it stood
stand_anyway : (d : Deed) (s t : Stand) → moves_cursor d ≡ true → stand_after s d ≡ stand_after t d
stand_anyway d s t is = go (stand_of d) is
  where
    go : (stand : Option Stand) → is_some stand ≡ true → unwrap_or stand s ≡ unwrap_or stand t
    go None e = absurd (true≢false (sym e))
    go (Some stand) e = refl

-- any other deed leaves it where it stands
stand_left : (d : Deed) (s : Stand) → moves_cursor d ≡ false → stand_after s d ≡ s
stand_left d s is = go (stand_of d) is
  where
    go : (stand : Option Stand) → is_some stand ≡ false → unwrap_or stand s ≡ s
    go None e = refl
    go (Some stand) e = absurd (true≢false e)

-- a deed that isn't kept moves the cursor only if the next one does
moved_on : (d : Deed) (later : List Deed) → is_kept d later ≡ false → moves_cursor d ≡ true → moves_next later ≡ true
moved_on d later is moves = go (is_drawn d) (moves_cursor d) (moves_next later) is moves
  where
    go : (drawn moved next : Bool) → (drawn || (moved && not next)) ≡ false → moved ≡ true → next ≡ true
    go true moved next e m = absurd (true≢false e)
    go false true true e m = refl
    go false true false e m = absurd (true≢false e)
    go false false next e m = absurd (true≢false (sym m))

-- kept deeds tell the cursor from where it stands, or from anywhere if the first deed moves it
record Tells (deeds : List Deed) : Type 0 where
  pub same : (s : Stand) → stands s (kept_deeds deeds) ≡ stands_of_kept s deeds
  pub anyway : moves_next deeds ≡ true → (s t : Stand) → stands s (kept_deeds deeds) ≡ stands_of_kept t deeds

-- a deed more, from two stands that it leaves in one
module _ (d : Deed) (deeds : List Deed) (more : Tells deeds) (s t : Stand) (joins : stand_after s d ≡ stand_after t d) where
  shown : stands s (d ∷ kept_deeds deeds) ≡ stand_after t d ∷ stands_of_kept (stand_after t d) deeds
  shown =
      ap (λ (at : Stand). at ∷ stands at (kept_deeds deeds)) joins
      ∙ ap (λ (later : List Stand). stand_after t d ∷ later) (more.same (stand_after t d))

  hidden : (moves : Bool) → moves_cursor d ≡ moves → is_kept d deeds ≡ false → stands s (kept_deeds deeds) ≡ stands_of_kept (stand_after t d) deeds
  hidden true moves is = more.anyway (moved_on d deeds is moves) s (stand_after t d)
  hidden false stays is = more.same s ∙ ap (λ (at : Stand). stands_of_kept at deeds) (sym (stand_left d s stays) ∙ joins)

  step : (test : Bool) → is_kept d deeds ≡ test
      → stands s (if test then d ∷ kept_deeds deeds else kept_deeds deeds)
      ≡ (if test then stand_after t d ∷ stands_of_kept (stand_after t d) deeds else stands_of_kept (stand_after t d) deeds)
  step true is = shown
  step false is = hidden (moves_cursor d) refl is

tells_more : (d : Deed) (deeds : List Deed) → Tells deeds → Tells (d ∷ deeds)
tells_more d deeds more = record {
  same = λ s. step d deeds more s s refl (is_kept d deeds) refl;
  anyway = λ is s t. step d deeds more s t (stand_anyway d s t is) (is_kept d deeds) refl;
}

tells : (deeds : List Deed) → Tells deeds
tells [] = record { same = λ s. refl; anyway = λ is s t. absurd (true≢false (sym is)) }
tells (d ∷ deeds) = tells_more d deeds (tells deeds)

pub kept-tell_the_cursor : KeptDeedsTellTheCursor
kept-tell_the_cursor deeds stand = (tells deeds).same stand
