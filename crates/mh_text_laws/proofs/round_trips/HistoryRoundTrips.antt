-- Histories of both versions are read as they were written.
use Rattle.std.proofs.Common.{arith, ◌≡◌, ◌∙◌, ℕ, suc, ◌≤◌, Bool, true, Option, Some, List, [], ◌∷◌, length, map, ap, sym, refl, append-nil}
use Rattle.std.proofs.lemmas.Bool.{and_parts, and_from}
use Rattle.std.specs.List.{list_all}
use Rattle.mh_model.specs.{declared.config.Config.Config, declared.history.Entry.Entry}
use Rattle.mh_model.specs.{Bytes.{Text, cut_after, words, joined, lines_text}, declared.history.Version.TheVariants.One}
use Rattle.mh_model.specs.Script.{Means, reading_map}
use Rattle.mh_model.specs.HistoryTexts.{Recorded, entry_words, measured_line, measured_words, is_entry, is_measured, measured_of, header_words, header_of, history_text, recorded_text, entries_from, history_reading, recorded_by, recorded_of, recorded_reading}
use Rattle.mh_model.specs.declared.history.Measured.{Measured}
use Rattle.mh_model.proofs.ScriptLemmas.{history_reading-short, recorded_reading-short}
use Rattle.mh_text_laws.proofs.ListLemmas.{all-map}
use Rattle.mh_text_laws.proofs.round_trips.WordRoundTrips.{is_free, are_free, cut-lines, joined_free}
use Rattle.mh_text_laws.proofs.round_trips.EntryRoundTrips.{entry_of-line, measured_of-line, entry_are_words, measured_are_words}
use Rattle.mh_text_laws.proofs.round_trips.HeaderRoundTrips.{header_are_words, header_of-line}

-- Lines ------------------------------------------------------------------------------------------

-- an entry as a line
abbrev pub entry_line : Entry → Text
entry_line e = joined (entry_words e)

step_entry : {X : Type 0} (read : Text → Option X) (n : ℕ) (line : Text) (lines : List Text) (rest : Text) (x : X) → read line ≡ Some x
    → entries_from read n (line ∷ lines) rest ≡ reading_map (λ entries. x ∷ entries) (entries_from read (suc n) lines rest)
step_entry read n line lines rest x is = rw (is, entries_from) refl

entries_from-lines : {X : Type 0} (read : Text → Option X) (line : X → Text) (passes : X → Bool) → ((x : X) → passes x ≡ true → read (line x) ≡ Some x)
    → (n : ℕ) (xs : List X) → list_all passes xs ≡ true → entries_from read n (map line xs) [] ≡ Means xs
entries_from-lines read line passes back n [] h = refl
entries_from-lines read line passes back n (x ∷ xs) h =
    step_entry read n (line x) (map line xs) [] x (back x (and_parts _ _ h).0)
    ∙ ap (reading_map (λ entries. x ∷ entries)) (entries_from-lines read line passes back (suc n) xs (and_parts _ _ h).1)

pub cut-text : (lines : List Text) → are_free 10 lines ≡ true → cut_after 10 (lines_text lines) ≡ record { pieces = lines; rest = [] }
cut-text lines h =
    ap (cut_after 10) (sym (append-nil (lines_text lines))) ∙ cut-lines lines [] h ∙ ap (λ (found : List Text). record { pieces = found; rest = [] }) (append-nil lines)

-- Version 1 --------------------------------------------------------------------------------------

pub history_reading-text : (entries : List Entry) → list_all (is_entry One) entries ≡ true → length (history_text entries) ≤ 1073741824
    → history_reading (history_text entries) ≡ Means entries
history_reading-text entries h few = grind (arith, are_free, all-map, is_free, joined_free, entry_are_words, history_reading-short, cut-text, entries_from-lines, entry_of-line)

-- Version 2 --------------------------------------------------------------------------------------

recorded_by-known : (c : Config) (found : Option Config) (lines : List Text) (entries : List Measured) → found ≡ Some c
    → entries_from (λ line. measured_of (words line)) 2 lines [] ≡ Means entries → recorded_by found lines [] ≡ Means (record { config = c; entries = entries })
recorded_by-known c found lines entries is all = rw (is, all) refl

pub recorded_reading-text : (r : Recorded) → list_all is_measured r.entries ≡ true → length (recorded_text r) ≤ 2147483648 → recorded_reading (recorded_text r) ≡ Means r
recorded_reading-text r h few =
    let first : Text = joined (header_words r.config) in
    let lines : List Text = map measured_line r.entries in
    let free : are_free 10 (joined (header_words r.config) ∷ map measured_line r.entries) ≡ true =
    and_from _ _ (joined_free (header_words r.config) (header_are_words r.config))
    (all-map is_measured (is_free 10) measured_line r.entries (λ m in_range. joined_free (measured_words m) (measured_are_words m in_range)) h) in
    recorded_reading-short (recorded_text r) few ∙ ap recorded_of (cut-text (first ∷ lines) free)
    ∙ recorded_by-known r.config (header_of (words first)) lines r.entries (header_of-line r.config)
    (entries_from-lines (λ line. measured_of (words line)) measured_line is_measured measured_of-line 2 r.entries h)
