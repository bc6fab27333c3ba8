-- A reply in range is another, or it isn't: their words tell.
use Rattle.std.proofs.Common.{arith, ◌≡◌, ◌∙◌, ◌⊎◌, inl, inr, Bool, true, false, List, [], ◌∷◌, ap, sym, refl, subst}
use Rattle.std.proofs.{lemmas.Bool.{and_from, both_ways}, lemmas.Option.same_Some}
use Rattle.mh_model.specs.{declared.reply.Reply.Reply, Bytes.Text, declared.history.Version.Version}
use Rattle.mh_model.specs.Replies.{reply_words, reply_of, is_reply, are_texts}
use Rattle.mh_model.proofs.TextLemmas.{text_itself}
use Rattle.mh_text_laws.proofs.{round_trips.ReplyRoundTrips.reply_of-words, rewritings.FormsWrittenAgain.texts_are}

are_texts-themselves : (texts : List Text) → are_texts texts texts ≡ true
are_texts-themselves [] = refl
are_texts-themselves (text ∷ texts) = and_from _ _ (text_itself text) (are_texts-themselves texts)

pub same_or_other : (version : Version) (r s : Reply) → is_reply version r ≡ true → (r ≡ s) ⊎ (r ≡ s → ⊥)
same_or_other version r s in_range = by (is_reply version s) (are_texts (reply_words r) (reply_words s)) refl refl where
  by : (known alike : Bool) → is_reply version s ≡ known → are_texts (reply_words r) (reply_words s) ≡ alike → (r ≡ s) ⊎ (r ≡ s → ⊥)
  by true true is alike =
      let words : reply_words r ≡ reply_words s = texts_are (reply_words r) (reply_words s) alike in
      inl (same_Some r s (sym (reply_of-words version r in_range) ∙ ap (reply_of version) words ∙ reply_of-words version s is))
  by true false is unlike = grind (arith, inr, both_ways, are_texts-themselves)
  by false alike is told = inr (λ same. both_ways (is_reply version s) is (subst (λ (x : Reply). is_reply version x ≡ true) same in_range))
