-- Trace events as text, and counts that grow.
use Rattle.std.proofs.Common.{◌≡◌, ◌∙◌, ◌+◌, ◌≤◌, Bool, true, false, List, [], ◌∷◌, ◌++◌, append-nil, append_assoc, ap, arith, codes, sym}
use Rattle.std.proofs.lemmas.Grind.{flat_map-append}
use Rattle.std.specs.Prelude.{Result, Ok, Err, OnOk}
use Rattle.mh_model.specs.{declared.deed.Deed.Deed, declared.deed.Fate.Fate, Bytes.Text}
use Rattle.mh_tell_steps.specs.{declared.figures.HeapCounts.HeapCounts, Lines.quoted}
use Rattle.mh_tell_chrome.specs.{Deeds.{counted, shaded_by, swept}, Auxiliary.total}
use Rattle.mh_tell_chrome.specs.TraceEvents.{TraceEvent, next_text, next_texts}

pub next_texts_append : (first next : List TraceEvent) → next_texts (first ++ next) ≡ next_texts first ++ next_texts next
next_texts_append first next = flat_map-append next_text first next

pub written5 : (old a b c d e p q r s t : Text) → a ≡ old ++ p → b ≡ a ++ q → c ≡ b ++ r → d ≡ c ++ s → e ≡ d ++ t → e ≡ old ++ (p ++ (q ++ (r ++ (s ++ t))))
written5 old a b c d e p q r s t a_is b_is c_is d_is e_is = e_is ∙ rw (d_is, c_is, b_is, a_is) (simp append_assoc)

pub written6 : (old a b c d e f p q r s t u : Text) → a ≡ old ++ p → b ≡ a ++ q → c ≡ b ++ r → d ≡ c ++ s → e ≡ d ++ t → f ≡ e ++ u → f ≡ old ++ (p ++ (q ++ (r ++ (s ++ (t ++ u)))))
written6 old a b c d e f p q r s t u a_is b_is c_is d_is e_is f_is = f_is ∙ rw (e_is, d_is, c_is, b_is, a_is) (simp append_assoc)

-- a counter of one number, and that of blocks
abbrev front : (time name key : Text) → Text
front time name key = codes ",\n{\"ph\":\"C\",\"ts\":" ++ (time ++ (codes ",\"pid\":1,\"cat\":\"metroheap\",\"name\":\"" ++ (name ++ (codes "\",\"args\":{\"" ++ (key ++ codes "\":")))))

pub counter_written : (old a b c time name key number : Text) → a ≡ old ++ front time name key → b ≡ a ++ number → c ≡ b ++ codes "}}"
    → c ≡ old ++ (44 ∷ 10 ∷ (codes "{\"ph\":\"C\",\"ts\":" ++ (time ++ (codes ",\"pid\":1" ++ (codes ",\"cat\":\"metroheap\",\"name\":" ++ (quoted name ++ ((codes ",\"args\":{" ++ ((quoted key ++ 58 ∷ number) ++ codes "}")) ++ codes "}")))))))
counter_written old a b c time name key number a_is b_is c_is = c_is ∙ rw (b_is, a_is) (simp append_assoc)

pub blocks_written : (old a b c d time name key live other : Text) → a ≡ old ++ front time name key → b ≡ a ++ live → c ≡ b ++ other → d ≡ c ++ codes "}}"
    → d ≡ old ++ (44 ∷ 10 ∷ (codes "{\"ph\":\"C\",\"ts\":" ++ (time ++ (codes ",\"pid\":1" ++ (codes ",\"cat\":\"metroheap\",\"name\":" ++ (quoted name ++ ((codes ",\"args\":{" ++ (((quoted key ++ 58 ∷ live) ++ other) ++ codes "}")) ++ codes "}")))))))
blocks_written old a b c d time name key live other a_is b_is c_is d_is = d_is ∙ rw (c_is, b_is, a_is) (simp append_assoc)

-- a slice, or an instant, with its name and its arguments
pub named_written : (old a b c d e f placed name arguments : Text) → a ≡ old ++ (codes ",\n" ++ placed) → b ≡ a ++ codes ",\"cat\":\"metroheap\",\"name\":\"" → c ≡ b ++ name → d ≡ c ++ codes "\"" → e ≡ d ++ arguments → f ≡ e ++ codes "}" → f ≡ old ++ (codes ",\n" ++ (placed ++ (codes ",\"cat\":\"metroheap\",\"name\":" ++ (quoted name ++ (arguments ++ codes "}")))))
named_written old a b c d e f placed name arguments a_is b_is c_is d_is e_is f_is = f_is ∙ rw (e_is, d_is, c_is, b_is, a_is) (simp append_assoc)

-- a slice whose name has two parts
pub numbered_written : (old a b c d e placed name number : Text) → a ≡ old ++ (codes ",\n" ++ placed) → b ≡ a ++ codes ",\"cat\":\"metroheap\",\"name\":\"" → c ≡ b ++ name → d ≡ c ++ number → e ≡ d ++ codes "\"}" → e ≡ old ++ (codes ",\n" ++ (placed ++ (codes ",\"cat\":\"metroheap\",\"name\":" ++ (quoted (name ++ number) ++ codes "}"))))
numbered_written old a b c d e placed name number a_is b_is c_is d_is e_is = e_is ∙ rw (d_is, c_is, b_is, a_is) (simp append_assoc)

-- the slice of a quantum
quantum_pieces : (old line placed category name braces event number spent_key spent phase_key phase close : Text)
    → (((((old ++ (line ++ placed)) ++ (category ++ (name ++ (braces ++ event)))) ++ number) ++ (spent_key ++ spent)) ++ (phase_key ++ phase)) ++ (close ++ close)
    ≡ old ++ (line ++ (placed ++ (category ++ (name ++ ((braces ++ (((event ++ number) ++ ((spent_key ++ spent) ++ (phase_key ++ phase))) ++ close)) ++ close)))))
quantum_pieces old line placed category name braces event number spent_key spent phase_key phase close = simp append_assoc

pub quantum_written : (old a b c d e f placed number spent phase : Text) → a ≡ old ++ (codes ",\n" ++ placed) → b ≡ a ++ codes ",\"cat\":\"metroheap\",\"name\":\"quantum\",\"args\":{\"event\":" → c ≡ b ++ number → d ≡ c ++ (codes ",\"spent\":" ++ spent) → e ≡ d ++ (codes ",\"phase\":" ++ phase) → f ≡ e ++ codes "}}" → f ≡ old ++ (codes ",\n" ++ (placed ++ (codes ",\"cat\":\"metroheap\",\"name\":" ++ (quoted (codes "quantum") ++ ((codes ",\"args\":{" ++ (((quoted (codes "event") ++ 58 ∷ number) ++ 44 ∷ ((quoted (codes "spent") ++ 58 ∷ spent) ++ 44 ∷ (quoted (codes "phase") ++ 58 ∷ phase))) ++ codes "}")) ++ codes "}")))))
quantum_written old a b c d e f placed number spent phase a_is b_is c_is d_is e_is f_is = f_is ∙ rw (e_is, d_is, c_is, b_is, a_is) (quantum_pieces old (codes ",\n") placed (codes ",\"cat\":\"metroheap\",\"name\":") (quoted (codes "quantum")) (codes ",\"args\":{") (codes "\"event\":") number (codes ",\"spent\":") spent (codes ",\"phase\":") phase (codes "}"))

-- two events
pub two_written : (old a b : Text) (first next : TraceEvent) → a ≡ old ++ next_text first → b ≡ a ++ next_text next → b ≡ old ++ next_texts (first ∷ next ∷ [])
two_written old a b first next a_is b_is = b_is ∙ rw a_is (simp (append_assoc, append-nil))

pub three_written : (old a b c : Text) (first next last : TraceEvent) → a ≡ old ++ next_text first → b ≡ a ++ next_text next → c ≡ b ++ next_text last → c ≡ old ++ next_texts (first ∷ next ∷ last ∷ [])
three_written old a b c first next last a_is b_is c_is = c_is ∙ rw (b_is, a_is) (simp (append_assoc, append-nil))

-- an event before others, others before two, and others before others and one
pub before_written : (old a b : Text) (first : TraceEvent) (events : List TraceEvent) → a ≡ old ++ next_text first → b ≡ a ++ next_texts events → b ≡ old ++ next_texts (first ∷ events)
before_written old a b first events a_is b_is = b_is ∙ rw a_is (simp append_assoc)

pub after_written : (old a b c : Text) (events : List TraceEvent) (first next : TraceEvent) → a ≡ old ++ next_texts events → b ≡ a ++ next_text first → c ≡ b ++ next_text next → c ≡ old ++ next_texts (events ++ first ∷ next ∷ [])
after_written old a b c events first next a_is b_is c_is =
    two_written a b c first next b_is c_is ∙ (ap (λ (text : Text). text ++ next_texts (first ∷ next ∷ [])) a_is ∙ (append_assoc old (next_texts events) (next_texts (first ∷ next ∷ [])) ∙ ap (λ (text : Text). old ++ text) (sym (next_texts_append events (first ∷ next ∷ [])))))

pub both_written : (old a b : Text) (first next : List TraceEvent) → a ≡ old ++ next_texts first → b ≡ a ++ next_texts next → b ≡ old ++ next_texts (first ++ next)
both_written old a b first next a_is b_is =
    b_is ∙ (ap (λ (text : Text). text ++ next_texts next) a_is ∙ (append_assoc old (next_texts first) (next_texts next) ∙ ap (λ (text : Text). old ++ text) (sym (next_texts_append first next))))

pub one_written : (old a : Text) (event : TraceEvent) → a ≡ old ++ next_text event → a ≡ old ++ next_texts (event ∷ [])
one_written old a event a_is = a_is ∙ ap (λ (text : Text). old ++ text) (sym (append-nil (next_text event)))

-- what follows holds of a call that went well
pub ok_then : {T E P Q : Type 0} (r : Result T E) → (P → Q) → OnOk r P → OnOk r Q
ok_then (Ok value) f h = f h
ok_then (Err error) f h = tt

shaded_few : (is_shaded : Bool) → shaded_by is_shaded ≤ 1
shaded_few true = omega arith
shaded_few false = omega arith

swept_few : (counts : HeapCounts) (f : Fate) → total (swept counts f) ≤ total counts
swept_few counts Fate.Empty = omega arith
swept_few counts other = omega arith

-- a deed adds one at most to what is counted
pub counted_few : (counts : HeapCounts) (d : Deed) → total (counted counts d) ≤ total counts + 1
counted_few counts (Deed.Start cycle) = omega arith
counted_few counts (Deed.Enter phase) = omega arith
counted_few counts Deed.End = omega arith
counted_few counts (Deed.Root slot edge) = omega (arith, shaded_few edge.is_shaded)
counted_few counts (Deed.Mark place name) = omega arith
counted_few counts (Deed.Reference index edge) = omega (arith, shaded_few edge.is_shaded)
counted_few counts (Deed.Pass page) = omega arith
counted_few counts (Deed.Sweep place f) = omega (arith, swept_few counts f)
counted_few counts other = omega arith
