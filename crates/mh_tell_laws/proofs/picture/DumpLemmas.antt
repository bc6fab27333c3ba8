-- The dump and the counts of a heap are those of its picture: a dump sees no more of a block than is drawn.
use Rattle.std.proofs.Common.{◌≡◌, ℕ, suc, not, Bool, Option, Some, None, option_map, List, [], ◌∷◌, map, filter, length, refl, sym, ap, ◌∙◌, arith}
use Rattle.std.proofs.lemmas.List.{map-append}
use Rattle.mh_model.specs.{Pages.{Table, free_pages}, Table.{Block, is_forwarder}, Collector.Collector}
use Rattle.mh_model.specs.Machine.{dump_block, dump_slots, dump_pages, blocks_in, blocks_of, stat_on}
use Rattle.mh_table_laws.specs.TableMaps.{table_map}
use Rattle.mh_table_laws.proofs.PageMapLemmas.{free_pages-table_map}
use Rattle.mh_tell_laws.specs.Picture.{drawn_of, picture_of, bare_block, pictured_dump, pictured_stat}
use Rattle.mh_tell_laws.specs.PictureLaws.{PictureGivesTheDump}

-- a block as its picture has it
abbrev seen : Block → Block
seen block = bare_block (drawn_of block)

dump-block : (slot : ℕ) (block : Block) (forward : Option ℕ) → dump_block slot block forward ≡ dump_block slot (seen block) forward
dump-block slot block forward = refl

dump-slots : (slot : ℕ) (slots : List (Option Block)) → dump_slots slot slots ≡ dump_slots slot (map (option_map bare_block) (map (option_map drawn_of) slots))
dump-slots slot [] = refl
dump-slots slot (None ∷ slots) = dump-slots (suc slot) slots
dump-slots slot (Some block ∷ slots) = grind (arith, dump-block, dump-slots (suc slot) slots)

dump-pages : (number : ℕ) (table : Table Block) → dump_pages number table ≡ dump_pages number (table_map bare_block (table_map drawn_of table))
unfolding table_map
dump-pages number [] = refl
dump-pages number (None ∷ pages) = dump-pages (suc number) pages
dump-pages number (Some page ∷ pages) = grind (arith, dump-slots, dump-pages (suc number) pages)

pub dump-drawn : (collector : Collector) → dump_pages 0 collector.table ≡ pictured_dump (picture_of collector)
dump-drawn collector = dump-pages 0 collector.table

-- Counts -----------------------------------------------------------------------------------------

free-drawn : (table : Table Block) → free_pages table ≡ free_pages (table_map bare_block (table_map drawn_of table))
free-drawn table = sym (free_pages-table_map bare_block (table_map drawn_of table) ∙ free_pages-table_map drawn_of table)

slots-drawn : (slots : List (Option Block)) → blocks_in (map (option_map bare_block) (map (option_map drawn_of) slots)) ≡ map seen (blocks_in slots)
slots-drawn [] = refl
slots-drawn (None ∷ slots) = slots-drawn slots
slots-drawn (Some block ∷ slots) = ap (λ rest. seen block ∷ rest) (slots-drawn slots)

-- the blocks of a table, each as its picture has it
blocks-drawn : (table : Table Block) → blocks_of (table_map bare_block (table_map drawn_of table)) ≡ map seen (blocks_of table)
unfolding table_map
blocks-drawn [] = refl
blocks-drawn (None ∷ table) = blocks-drawn table
blocks-drawn (Some page ∷ table) = grind (arith, slots-drawn, map-append, blocks-drawn table)

-- as many pass a test that sees only forwarders
count-drawn : (test : Bool → Bool) (blocks : List Block) → length (filter (λ block. test (is_forwarder block)) (map seen blocks)) ≡ length (filter (λ block. test (is_forwarder block)) blocks)
count-drawn test [] = refl
count-drawn test (block ∷ blocks) = grind (arith, count-drawn test blocks)

counts-drawn : (test : Bool → Bool) (table : Table Block) → length (filter (λ block. test (is_forwarder block)) (blocks_of table)) ≡ length (filter (λ block. test (is_forwarder block)) (blocks_of (table_map bare_block (table_map drawn_of table))))
counts-drawn test table = sym (ap (λ blocks. length (filter (λ block. test (is_forwarder block)) blocks)) (blocks-drawn table) ∙ count-drawn test (blocks_of table))

pub stat-drawn : (collector : Collector) → stat_on collector ≡ pictured_stat (picture_of collector)
stat-drawn collector =
    let free : free_pages collector.table ≡ free_pages (table_map bare_block (table_map drawn_of collector.table)) = free-drawn collector.table in
    let live = counts-drawn not collector.table in
    let old = counts-drawn (λ b. b) collector.table in
    grind arith

pub gives-the-dump : PictureGivesTheDump
gives-the-dump = record { dump = dump-drawn; stat = stat-drawn }
