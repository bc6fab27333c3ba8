-- Words that are a reply are what is written of it, and it is well formed.
use Rattle.std.proofs.Common.{option_to_list, ◌≡◌, ◌∙◌, ℕ, cond, Bool, true, false, Option, Some, None, option_map, option_and_then, List, [], ◌∷◌, map, ap, sym, refl, codes, decimal, arith}
use Rattle.std.proofs.lemmas.Bool.{and_from}
use Rattle.mh_model.specs.{declared.reply.Reply.Reply, declared.reply.Refusal.Refusal, declared.cycle.Phase.Phase}
use Rattle.mh_model.specs.Bytes.{Text, is_text, number, numbers}
use Rattle.mh_model.specs.Forms.{within, formed, with_numbers, at, u32, u64, where_known}
use Rattle.mh_model.specs.declared.history.Version.{Version}
use Rattle.mh_model.specs.Replies.{refusal_words, phase_word, optional_word, reply_words, are_u64, is_reply, refusal_forms, phase_forms, phase_of, ascends, Ready, items_from, values, spent_of, stat_from, stat_of, optional_by, optional_of, report_from, report_of, dump_of, reply_forms, reply_of}
use Rattle.mh_text_laws.proofs.rewritings.NumbersWrittenAgain.{within_is, mapped, chained, number_is, numbers_are, of_each, length-decimals}
use Rattle.mh_text_laws.proofs.rewritings.DumpsWrittenAgain.{items_are}
use Rattle.mh_text_laws.proofs.rewritings.FormsWrittenAgain.{IsOf, same_of, word-faithful, IsFaithful, AreFaithful, formed-faithful, numbers-faithful, words-faithful}
use Rattle.mh_model.proofs.TextLemmas.{text_is}

-- Parts of replies -------------------------------------------------------------------------------

refusal_is : (words : List Text) (x : Refusal) → formed refusal_forms words ≡ Some x → IsOf refusal_words (λ x. true) words x
refusal_is = formed-faithful refusal_words (λ x. true) refusal_forms (grind (arith, words-faithful))

phase_is : (word : Text) (phase : Phase) → phase_of word ≡ Some phase → phase_word phase ≡ word
phase_is = word-faithful phase_word phase_forms (grind (arith, words-faithful))

-- an optional number of 64 bits
abbrev IsOptional : Text → Option ℕ → Type 0
IsOptional word n = (optional_word n ≡ word) × (are_u64 (option_to_list n) ≡ true)

optional_is : (word : Text) (n : Option ℕ) → optional_of word ≡ Some n → IsOptional word n
optional_is word n h = by (number word) (is_text word (codes "none")) refl refl h where
  by : (found : Option ℕ) (none : Bool) → number word ≡ found → is_text word (codes "none") ≡ none → optional_by found none ≡ Some n → IsOptional word n
  by (Some m) none is other h = grind (arith, number_is, and_from)
  by None true is other h = grind (arith, text_is)
  by None false is other h = cc

-- Values between keys ----------------------------------------------------------------------------

-- values with keys between them
abbrev keyed : List Text → List Text → List Text
keyed [] more = more
keyed (key ∷ keys) [] = []
keyed (key ∷ keys) (value ∷ more) = value ∷ key ∷ keyed keys more

values_are : (keys words more : List Text) → values keys words ≡ Some more → keyed keys more ≡ words
values_are [] [] more h = cc
values_are [] (value ∷ []) more h = let same : value ∷ [] ≡ more = cc in sym same
values_are [] (value ∷ word ∷ words) more h = cc
values_are (key ∷ keys) [] more h = cc
values_are (key ∷ keys) (value ∷ []) more h = cc
values_are (key ∷ keys) (value ∷ word ∷ words) more h = by (is_text word key) refl (values_are keys words) h where
  by : (is : Bool) → is_text word key ≡ is → ((found : List Text) → values keys words ≡ Some found → keyed keys found ≡ words)
      → cond is (option_map (λ found. value ∷ found) (values keys words)) None ≡ Some more → keyed (key ∷ keys) more ≡ value ∷ word ∷ words
  by true is later k =
      let found = mapped (λ found. value ∷ found) (values keys words) more k in
      let here : word ≡ key = text_is word key is in
      ap (keyed (key ∷ keys)) (sym found.same) ∙ rw (later found.from found.is, here) refl
  by false is later k = cc

-- words are what is written of a reply, which is well formed
abbrev IsReply : Version → List Text → Reply → Type 0
IsReply version = IsOf reply_words (is_reply version)

-- a form of values between keys is faithful if what its values make is
keyed-faithful : (version : Version) (verb : Text) (keys : List Text) (made : List Text → Option Reply)
    → ((more : List Text) (r : Reply) → made more ≡ Some r → IsReply version (verb ∷ keyed keys more) r)
    → IsFaithful reply_words (is_reply version) (record { verb = verb; meaning = λ words. option_and_then made (values keys words) })
keyed-faithful version verb keys made each = record {
  read = λ words r h.
      let found = chained made (values keys words) r h in
      let known = each found.from r found.then in
      (known.0 ∙ ap (λ (ws : List Text). verb ∷ ws) (values_are keys words found.from found.is), known.1);
}

abbrev spent_keys : List Text
spent_keys = codes "phase" ∷ []

spent_is : (version : Version) (more : List Text) (r : Reply) → spent_of more ≡ Some r → IsReply version (codes "spent" ∷ keyed spent_keys more) r
spent_is version (units ∷ phase ∷ []) r h = grind (arith, chained, mapped, number_is, same_of, phase_is, and_from)
spent_is version more r h = cc

abbrev stat_keys : List Text
stat_keys = codes "live" ∷ codes "old" ∷ codes "phase" ∷ codes "cycle" ∷ []

-- the reply of these numbers and this phase
abbrev stat : Phase → List ℕ → Reply
stat p ns = Reply.Stat (stat_from ns p)

stat_is : (version : Version) (more : List Text) (r : Reply) → stat_of more ≡ Some r → IsReply version (codes "free" ∷ keyed stat_keys more) r
stat_is version (free ∷ live ∷ old ∷ phase ∷ cycle ∷ []) r h =
    let texts : List Text = free ∷ live ∷ old ∷ cycle ∷ [] in
    let found : List Text = codes "free" ∷ keyed stat_keys (free ∷ live ∷ old ∷ phase ∷ cycle ∷ []) in
    let n = chained (λ ns. option_map (λ p. stat p ns) (phase_of phase)) (numbers texts) r h in
    let p = mapped (λ p. stat p n.from) (phase_of phase) r n.then in
    let known = numbers_are texts n.from n.is in
    same_of reply_words (is_reply version) found (stat p.from n.from) r p.same
    (of_each texts (λ ns. map decimal ns ≡ texts → are_u64 ns ≡ true → IsReply version found (stat p.from ns))
    (λ a b c d same small. (all_same a b c d (phase_word p.from) same (phase_is phase p.from p.is), small)) n.from (length-decimals n.from texts known.0) known.0 known.1) where
      all_same : (a b c d : ℕ) (p : Text) → decimal a ∷ decimal b ∷ decimal c ∷ decimal d ∷ [] ≡ free ∷ live ∷ old ∷ cycle ∷ [] → p ≡ phase
          → codes "free" ∷ keyed stat_keys (decimal a ∷ decimal b ∷ decimal c ∷ p ∷ decimal d ∷ []) ≡ codes "free" ∷ keyed stat_keys (free ∷ live ∷ old ∷ phase ∷ cycle ∷ [])
      all_same a b c d p same is = cc
stat_is version more r h = cc

abbrev report_keys : List Text
report_keys = codes "collector" ∷ codes "quanta" ∷ codes "greatest" ∷ codes "window" ∷ codes "least" ∷ codes "floor" ∷ []

abbrev report : Option ℕ → Option ℕ → List ℕ → Reply
report x y ns = Reply.Report (report_from ns x y)

report_is : (version : Version) (more : List Text) (r : Reply) → report_of more ≡ Some r → IsReply version (codes "mutator" ∷ keyed report_keys more) r
report_is version (mutator ∷ collector ∷ quanta ∷ greatest ∷ window ∷ least ∷ floor ∷ []) r h =
    let texts : List Text = mutator ∷ collector ∷ quanta ∷ greatest ∷ window ∷ [] in
    let found : List Text = codes "mutator" ∷ keyed report_keys (mutator ∷ collector ∷ quanta ∷ greatest ∷ window ∷ least ∷ floor ∷ []) in
    let n = chained (λ ns. option_and_then (λ x. option_map (λ y. report x y ns) (optional_of floor)) (optional_of least)) (numbers texts) r h in
    let l = chained (λ x. option_map (λ y. report x y n.from) (optional_of floor)) (optional_of least) r n.then in
    let f = mapped (λ y. report l.from y n.from) (optional_of floor) r l.then in
    let known = numbers_are texts n.from n.is in
    let x = optional_is least l.from l.is in
    let y = optional_is floor f.from f.is in
    same_of reply_words (is_reply version) found (report l.from f.from n.from) r f.same
    (of_each texts (λ ns. map decimal ns ≡ texts → are_u64 ns ≡ true → IsReply version found (report l.from f.from ns))
    (λ a b c d e same small. (all_same a b c d e (optional_word l.from) (optional_word f.from) same x.0 y.0, and_from _ _ small (and_from _ _ x.1 y.1)))
    n.from (length-decimals n.from texts known.0) known.0 known.1) where
      all_same : (a b c d e : ℕ) (x y : Text) → decimal a ∷ decimal b ∷ decimal c ∷ decimal d ∷ decimal e ∷ [] ≡ mutator ∷ collector ∷ quanta ∷ greatest ∷ window ∷ []
          → x ≡ least → y ≡ floor
          → codes "mutator" ∷ keyed report_keys (decimal a ∷ decimal b ∷ decimal c ∷ decimal d ∷ decimal e ∷ x ∷ y ∷ [])
          ≡ codes "mutator" ∷ keyed report_keys (mutator ∷ collector ∷ quanta ∷ greatest ∷ window ∷ least ∷ floor ∷ [])
      all_same a b c d e x y same p q = cc
report_is version more r h = cc

-- Replies ----------------------------------------------------------------------------------------

refused-faithful : (version : Version)
    → IsFaithful reply_words (is_reply version) (record { verb = codes "refused"; meaning = λ words. option_map (λ refusal. Reply.Refused refusal) (formed refusal_forms words) })
refused-faithful version = record {
  read = λ words r h.
      let found = mapped (λ refusal. Reply.Refused refusal) (formed refusal_forms words) r h in
      grind (arith, same_of, refusal_is);
}

dump-faithful : (version : Version) → IsFaithful reply_words (is_reply version) (record { verb = codes "dump"; meaning = dump_of })
dump-faithful version = record {
  read = λ words r h.
      let found = chained (λ items. within (ascends None None items) (Reply.Dump items)) (items_from Ready words) r h in
      let ordered = within_is (ascends None None found.from) (Reply.Dump found.from) r found.then in
      let known = items_are words Ready found.from found.is refl in
      grind (arith, same_of, and_from);
}

left_reply-faithful : (version : Version) → AreFaithful reply_words (is_reply version) (where_known version (with_numbers (codes "left") (u64 ∷ []) (λ ns. Reply.Left (at ns 0))))
left_reply-faithful version = grind (arith, numbers-faithful)

pub reply_is : (version : Version) (words : List Text) (r : Reply) → reply_of version words ≡ Some r → IsReply version words r
reply_is version = formed-faithful reply_words (is_reply version) (reply_forms version) (
  words-faithful _ _ (codes "ok") [] Reply.Done refl refl,
  (
    words-faithful _ _ (codes "yes") [] Reply.Yes refl refl,
    (
      words-faithful _ _ (codes "no") [] Reply.No refl refl,
      (
        numbers-faithful _ _ (codes "number") (u64 ∷ []) _ (λ a. (refl, refl)),
        (
          numbers-faithful _ _ (codes "shape") (u32 ∷ u32 ∷ []) _ (λ a b. (refl, refl)),
          (
            refused-faithful version,
            (
              keyed-faithful version (codes "spent") spent_keys spent_of (spent_is version),
              (
                keyed-faithful version (codes "free") stat_keys stat_of (stat_is version),
                (
                  dump-faithful version,
                  (
                    keyed-faithful version (codes "mutator") report_keys report_of (report_is version),
                    left_reply-faithful version,
                  ),
                ),
              ),
            ),
          ),
        ),
      ),
    ),
  ),
)
