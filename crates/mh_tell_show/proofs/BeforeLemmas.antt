-- Rows are drawn page by page, and in a page slot by slot.
use Rattle.std.proofs.Common.{◌≡◌, ◌∙◌, ℕ, suc, ◌+◌, ◌*◌, ◌≤◌, ◌<◌, ◌==◌, Bool, true, false, Option, Some, None, option_map, List, [], ◌∷◌, ◌++◌, length, map, replicate, set, refl, sym, ap, append_assoc, arith}
use Rattle.std.proofs.{Math.Seq.{get_or-append_seam, set-append_seam}, lemmas.List.length-append}
use Rattle.mh_model.specs.{Classes.slots_in, Numbered.flag_number}
use Rattle.mh_model.specs.Pages.{HasItsSlots, HaveTheirSlots, Page, Table, page_at, page_number, page_with, slot_number, with_block}
use Rattle.mh_model.specs.Table.{Block}
use Rattle.mh_tell_laws.specs.Picture.{Drawn, drawn_of}
use Rattle.mh_table_laws.proofs.tables.PageSlots.{slots_in-class_size}
use Rattle.mh_table_laws.specs.TableMaps.{page_map, table_map}
use Rattle.mh_tell_show.specs.Before.{page_rows, slot_rows, table_rows}
use Rattle.mh_tell_show.specs.{BeforeLaws.{RowsDrawTheHeap, drawn_numbers, drawn_page, drawn_rows}, Rows.PageRow}

rows_append : (table : Table Drawn) (first second : List PageRow) → drawn_rows table (first ++ second) ≡ drawn_rows (drawn_rows table first) second
rows_append table [] second = refl
rows_append table (row ∷ first) second = rows_append (drawn_numbers table row.kind row.numbers) first second

-- a page between others, with these slots
abbrev amid : Table Drawn → Page Drawn → List (Option Drawn) → Table Drawn → Table Drawn
amid front page slots back = front ++ Some (record page { slots = slots }) ∷ back

-- a block in the next slot of that page
with_next : (front back : Table Drawn) (page : Page Drawn) (seen rest : List (Option Drawn)) (slot : ℕ) (drawn : Drawn) → slot ≡ length seen → length seen < 64
    → with_block (amid front page (seen ++ None ∷ rest) back) (64 * length front + slot) (Some drawn) ≡ amid front page (seen ++ Some drawn ∷ rest) back
with_next front back page seen rest slot drawn is few =
    let place : ℕ = 64 * length front + slot in
    let number : page_number place ≡ length front = omega (arith, is, few) in
    let own : slot_number place ≡ length seen = omega (arith, is, few) in
    let old : Page Drawn = record page { slots = seen ++ None ∷ rest } in
    let there : page_at (amid front page (seen ++ None ∷ rest) back) (length front) ≡ Some old = get_or-append_seam front (Some old) back None in
    let put : page_with (length seen) (Some drawn) old ≡ record page { slots = seen ++ Some drawn ∷ rest } = ap (λ slots. record page { slots = slots }) (set-append_seam seen None rest (Some drawn)) in
    ap (λ n. set (amid front page (seen ++ None ∷ rest) back) n (option_map (page_with (slot_number place) (Some drawn)) (page_at (amid front page (seen ++ None ∷ rest) back) n))) number
    ∙ (ap (λ s. set (amid front page (seen ++ None ∷ rest) back) (length front) (option_map (page_with s (Some drawn)) (page_at (amid front page (seen ++ None ∷ rest) back) (length front)))) own
    ∙ (ap (λ at. set (amid front page (seen ++ None ∷ rest) back) (length front) (option_map (page_with (length seen) (Some drawn)) at)) there
    ∙ (ap (λ changed. set (amid front page (seen ++ None ∷ rest) back) (length front) (Some changed)) put
    ∙ set-append_seam front (Some old) back (Some (record page { slots = seen ++ Some drawn ∷ rest })))))

slots_drawn : (front back : Table Drawn) (page : Page Drawn) (seen : List (Option Drawn)) (slots : List (Option Block)) (slot : ℕ) → slot ≡ length seen → length seen + length slots ≤ 64
    → drawn_rows (amid front page (seen ++ replicate (length slots) None) back) (slot_rows (length front) slot slots) ≡ amid front page (seen ++ map (option_map drawn_of) slots) back
slots_drawn front back page seen [] slot is few = refl
slots_drawn front back page seen (None ∷ slots) slot is few =
    let longer : length (seen ++ None ∷ []) ≡ suc (length seen) = omega (arith, length-append seen (None ∷ [])) in
    ap (λ all. drawn_rows (amid front page all back) (slot_rows (length front) (suc slot) slots)) (sym (append_assoc seen (None ∷ []) (replicate (length slots) None)))
    ∙ (slots_drawn front back page (seen ++ None ∷ []) slots (suc slot) (omega (arith, is, longer)) (omega (arith, few, longer))
    ∙ ap (λ all. amid front page all back) (append_assoc seen (None ∷ []) (map (option_map drawn_of) slots)))
slots_drawn front back page seen (Some block ∷ slots) slot is few =
    let drawn : Drawn = drawn_of block in
    let longer : length (seen ++ Some drawn ∷ []) ≡ suc (length seen) = omega (arith, length-append seen (Some drawn ∷ [])) in
    ap (λ table. drawn_rows table (slot_rows (length front) (suc slot) slots)) (with_next front back page seen (replicate (length slots) None) slot drawn is (omega (arith, few)))
    ∙ (ap (λ all. drawn_rows (amid front page all back) (slot_rows (length front) (suc slot) slots)) (sym (append_assoc seen (Some drawn ∷ []) (replicate (length slots) None)))
    ∙ (slots_drawn front back page (seen ++ Some drawn ∷ []) slots (suc slot) (omega (arith, is, longer)) (omega (arith, few, longer))
    ∙ ap (λ all. amid front page all back) (append_assoc seen (Some drawn ∷ []) (map (option_map drawn_of) slots))))

flag_is : (flag : Bool) → (flag_number flag == 1) ≡ flag
flag_is true = refl
flag_is false = refl

page_drawn : (front back : Table Drawn) (page : Option (Page Block)) → ((used : Page Block) → page ≡ Some used → HasItsSlots used) → drawn_rows (front ++ None ∷ back) (page_rows (length front) page) ≡ front ++ option_map (page_map drawn_of) page ∷ back
page_drawn front back None has = refl
page_drawn front back (Some page) has =
    let own : HasItsSlots page = has page refl in
    let few : length page.slots ≤ 64 = omega (arith, own.slots, (slots_in-class_size page.class_size own.class).1) in
    let blank : Page Drawn = record { class_size = page.class_size; is_flagged = page.is_flagged; slots = [] } in
    let opened : drawn_page page.class_size (flag_number page.is_flagged) ≡ record blank { slots = replicate (length page.slots) None } =
    ap (λ (flag : Bool). record { class_size = page.class_size; is_flagged = flag; slots = replicate (slots_in page.class_size) None }) (flag_is page.is_flagged)
    ∙ ap (λ count. record blank { slots = replicate count None }) (sym own.slots) in
    ap (λ table. drawn_rows table (slot_rows (length front) 0 page.slots)) (set-append_seam front None back (Some (drawn_page page.class_size (flag_number page.is_flagged))) ∙ ap (λ drawn. front ++ Some drawn ∷ back) opened)
    ∙ slots_drawn front back blank [] page.slots 0 refl (omega (arith, few))

table_drawn : (front : Table Drawn) (table : Table Block) → HaveTheirSlots table → drawn_rows (front ++ replicate (length table) None) (table_rows (length front) table) ≡ front ++ table_map drawn_of table
unfolding table_map
table_drawn front [] have = refl
table_drawn front (page ∷ pages) have =
    let shown : Option (Page Drawn) = option_map (page_map drawn_of) page in
    let rest : Table Drawn = replicate (length pages) None in
    let longer : length (front ++ shown ∷ []) ≡ suc (length front) = omega (arith, length-append front (shown ∷ [])) in
    rows_append (front ++ None ∷ rest) (page_rows (length front) page) (table_rows (suc (length front)) pages)
    ∙ (ap (λ table. drawn_rows table (table_rows (suc (length front)) pages)) (page_drawn front rest page (λ used is. have 0 used is) ∙ sym (append_assoc front (shown ∷ []) rest))
    ∙ (ap (λ n. drawn_rows ((front ++ shown ∷ []) ++ rest) (table_rows n pages)) (sym longer)
    ∙ (table_drawn (front ++ shown ∷ []) pages (λ number used is. have (suc number) used is) ∙ append_assoc front (shown ∷ []) (map (option_map (page_map drawn_of)) pages))))

pub rows_draw : RowsDrawTheHeap
rows_draw table have = table_drawn [] table have
