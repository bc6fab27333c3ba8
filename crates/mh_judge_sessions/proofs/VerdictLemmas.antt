-- A text has a verdict by what its sessions see.
use Rattle.std.proofs.Common.{◌≡◌, ◌∙◌, ◌⊎◌, inl, inr, ℕ, zero, suc, Bool, true, false, if◌then◌else◌, List, [], ◌∷◌, map, sym, refl}
use Rattle.std.proofs.lemmas.Bool.{and_from, and_parts, false≢true}
use Rattle.std.specs.List.{list_all}
use Rattle.mh_model.specs.{declared.command.Event.Event, declared.config.Rules.Rules, declared.history.Entry.Entry}
use Rattle.mh_model.specs.{declared.history.Measured.Measured, declared.history.Verdict.Verdict}
use Rattle.mh_model.specs.declared.history.Verdict.TheVariants.{Refused, Legal, FirstBad}
use Rattle.mh_model.specs.{declared.history.Version.Version, declared.history.Version.TheVariants.{One, Two}}
use Rattle.mh_model.specs.{declared.reply.Reply.Reply, Bytes.{Text, cut_after}}
use Rattle.mh_model.specs.HistoryTexts.{IsJudged, Recorded, history_reading, is_entry, is_measured, recorded_reading}
use Rattle.mh_model.specs.{Limits.most_entries, Script.{Reading, BadLine, Means, reading_map}}
use Rattle.mh_model.specs.Sessions.{AreSeen, IsJudgedCutOff, IsLegalForSessions, IsSeen, IsSeenAs, IsSeenThrough, cut_off_at, entries_reading, entries_recorded, is_of_version_one, lacks_room, rules_named, rules_or, whole_lines}
use Rattle.mh_model.specs.{Snapshot.world_beside_event, World.{World, first_world, world_step}}
use Rattle.mh_text_laws.proofs.rewritings.HistoriesWrittenAgain.{histories-again, records-again}
use Rattle.mh_text_laws.proofs.verdicts.EqualReplies.{same_or_other}
use Rattle.mh_text_laws.proofs.verdicts.StepRules.{Follows, IsRule, follows_or_fails, some_verdict}
use Rattle.mh_judge_sessions.proofs.RulesLemmas.{some_config}
use Rattle.mh_judge_sessions.specs.Laws.{OnlyTheRulesMatter, TextsAreSeenThrough}

-- Step by step -----------------------------------------------------------------------------------

abbrev IsSeenBy : World → Entry → Type 0
IsSeenBy world entry = IsSeen world entry.event entry.reply

abbrev after_entry : World → Entry → World
after_entry world entry = world_beside_event world entry.event entry.reply

seen-follow : (world : World) (history : List Entry) → AreSeen world history → Follows IsSeenBy after_entry world history
seen-follow world [] seen = tt
seen-follow world (entry ∷ entries) seen = (seen.0, seen-follow (after_entry world entry) entries seen.1)

follow-seen : (world : World) (history : List Entry) → Follows IsSeenBy after_entry world history → AreSeen world history
follow-seen world [] follows = tt
follow-seen world (entry ∷ entries) follows = (follows.0, follow-seen (after_entry world entry) entries follows.1)

sessions_rule : OnlyTheRulesMatter → (rules : Rules) → IsRule IsSeenBy after_entry (first_world (some_config rules)) (IsLegalForSessions rules)
unfolding most_entries
sessions_rule alone rules = record {
  lawful = λ history few follows. record {
    few = few;
    seen = λ other same. alone.history (some_config rules) other same history (follow-seen (first_world (some_config rules)) history follows);
  };
  few = λ history legal. legal.few;
  follows = λ history legal. seen-follow (first_world (some_config rules)) history (legal.seen (some_config rules) refl);
}

-- an entry in range is seen, or it isn't
seen_or_not : (world : World) (event : Event) (answer : Reply) → ((other : Reply) → (answer ≡ other) ⊎ (answer ≡ other → ⊥)) → IsSeen world event answer ⊎ (IsSeen world event answer → ⊥)
seen_or_not world (Event.Session who command) answer decide = by (lacks_room command answer) refl (decide (world_step world who command).reply) where
  by : (b : Bool) → lacks_room command answer ≡ b → (answer ≡ (world_step world who command).reply) ⊎ (answer ≡ (world_step world who command).reply → ⊥)
      → IsSeen world (Event.Session who command) answer ⊎ (IsSeen world (Event.Session who command) answer → ⊥)
  by b lacks (inl same) = inl (inl same)
  by false lacks (inr other) = inr (λ seen. elim seen [ inl same ↦ other same | inr room ↦ false≢true (sym lacks ∙ room.0) ])
  by true lacks (inr other) = made (world_step world who command).reply refl where
    made : (given : Reply) → (world_step world who command).reply ≡ given → IsSeen world (Event.Session who command) answer ⊎ (IsSeen world (Event.Session who command) answer → ⊥)
    made Reply.Done is = inl (inr (lacks, is))
    made _ is = inr (λ seen. elim seen [ inl same ↦ other same | inr room ↦ (let done : Reply.Done ≡ _ = sym room.1 ∙ is in cc) ])
seen_or_not world (Event.Control control) answer decide = inl tt

judged : OnlyTheRulesMatter → (rules : Rules) (version : Version) (entries : List Entry) → list_all (is_entry version) entries ≡ true → (verdict : Verdict) × IsJudged (IsLegalForSessions rules) entries verdict
judged alone rules version entries in_range =
    some_verdict IsSeenBy after_entry (first_world (some_config rules)) (IsLegalForSessions rules) (sessions_rule alone rules) entries
    (follows_or_fails IsSeenBy after_entry (is_entry version) (λ world entry is. seen_or_not world entry.event entry.reply (λ other. same_or_other version entry.reply other (and_parts _ _ is).1)) (first_world (some_config rules)) entries in_range)

-- Texts ------------------------------------------------------------------------------------------

entries-in-range : (all : List Measured) → list_all is_measured all ≡ true → list_all (is_entry Two) (map (λ (measured : Measured). measured.entry) all) ≡ true
entries-in-range [] passed = refl
entries-in-range (measured ∷ all) passed = and_from _ _ (and_parts _ _ (and_parts _ _ passed).0).0 (entries-in-range all (and_parts _ _ passed).1)

recorded-in-range : (text : Text) (entries : List Entry) (found : Reading Recorded) → recorded_reading text ≡ found → reading_map entries_recorded found ≡ Means entries → list_all (is_entry Two) entries ≡ true
recorded-in-range text entries (BadLine line) is means = cc
recorded-in-range text entries (Means recorded) is means =
    let same : entries_recorded recorded ≡ entries = cc in
    rw (← same) (entries-in-range recorded.entries (records-again text recorded is).1)

-- what a text means is in the range of its version
in_range : (text : Text) (entries : List Entry) → entries_reading text ≡ Means entries → (version : Version) × (list_all (is_entry version) entries ≡ true)
in_range text entries = by (is_of_version_one (cut_after 10 text)) where
  by : (one : Bool) → (if one then history_reading text else reading_map entries_recorded (recorded_reading text)) ≡ Means entries → (version : Version) × (list_all (is_entry version) entries ≡ true)
  by true means = (One, (histories-again text entries means).1)
  by false means = (Two, recorded-in-range text entries (recorded_reading text) refl means)

pub seen_through : OnlyTheRulesMatter → TextsAreSeenThrough
seen_through alone asked text = by (entries_reading text) refl where
  named : Rules
  named = rules_named text

  found : (of : Text) (entries : List Entry) → entries_reading of ≡ Means entries → (verdict : Verdict) × IsJudged (IsLegalForSessions (rules_or asked named)) entries verdict
  found of entries is = let range = in_range of entries is in judged alone (rules_or asked named) range.0 entries range.1

  cut : (line : ℕ) (entries : List Entry) → (verdict : Verdict) × IsJudged (IsLegalForSessions (rules_or asked named)) entries verdict → (verdict : Verdict) × IsJudgedCutOff (rules_or asked named) line entries verdict
  cut line entries (Legal count, is) = (Refused line, (refl, is.0))
  cut line entries (FirstBad number, is) = (FirstBad number, is)
  cut line entries (Refused other, is) = absurd is

  at_line : (line : ℕ) (whole : Reading (List Entry)) → entries_reading (whole_lines text) ≡ whole → (verdict : Verdict) × IsSeenAs asked verdict (cut_off_at named line whole)
  at_line line (BadLine other) is = (Refused line, refl)
  at_line line (Means entries) is = cut line entries (found (whole_lines text) entries is)

  by : (read : Reading (List Entry)) → entries_reading text ≡ read → (verdict : Verdict) × IsSeenThrough asked text verdict
  by (BadLine zero) is = (Refused 0, rw is refl)
  by (BadLine (suc line)) is =
      let there = at_line (suc line) (entries_reading (whole_lines text)) refl in
      (there.0, rw is there.1)
  by (Means entries) is =
      let whole = found text entries is in
      (whole.0, rw is whole.1)
