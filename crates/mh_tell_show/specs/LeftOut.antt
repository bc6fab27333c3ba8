-- What is left out of a long run.
use Rattle.std.specs.Prelude.{◌≡◌, Bool, if◌then◌else◌, List, [], ◌∷◌}
use Rattle.mh_model.specs.declared.deed.Deed.{Deed}
use Rattle.mh_tell_laws.specs.Picture.{Picture, drawn_all}
use Rattle.mh_tell_show.specs.{Cursor.{Stand, stand_after}, Rows.{is_kept, kept_deeds, shown_deeds}}

-- The deeds that are written, all or those alone that are kept of a long run, draw what all of them draw
abbrev pub LeftOutDeedsDrawNothing : Type 0
LeftOutDeedsDrawNothing = (is_whole : Bool) (deeds : List Deed) (picture : Picture) → drawn_all picture (shown_deeds is_whole deeds) ≡ drawn_all picture deeds

-- where the cursor stands after each of these deeds, and at last
abbrev pub stands : Stand → List Deed → List Stand
stands stand [] = stand ∷ []
stands stand (deed ∷ later) = stand_after stand deed ∷ stands (stand_after stand deed) later

-- where the cursor stands after each deed that is kept of a long run, and at last
abbrev pub stands_of_kept : Stand → List Deed → List Stand
stands_of_kept stand [] = stand ∷ []
stands_of_kept stand (deed ∷ later) =
    if is_kept deed later then stand_after stand deed ∷ stands_of_kept (stand_after stand deed) later else stands_of_kept (stand_after stand deed) later

-- After each deed that is kept, and at last, those that are kept leave the cursor where all of them leave it
abbrev pub KeptDeedsTellTheCursor : Type 0
KeptDeedsTellTheCursor = (deeds : List Deed) (stand : Stand) → stands stand (kept_deeds deeds) ≡ stands_of_kept stand deeds
