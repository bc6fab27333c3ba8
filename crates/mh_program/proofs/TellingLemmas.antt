-- What standard error gets of texts that quote an input.
use Rattle.std.specs.Prelude.{Option, Some, None, IfSome, Result, Ok, Err, IfOk, MatchResult}
use Rattle.std.proofs.Common.{◌≡◌, [], ◌∷◌, ◌++◌, append_assoc, subst, sym}
use Rattle.mh_model.specs.Bytes.{Text, line_text}
use Rattle.mh_program.specs.Complaints.{ErrorStream, Quoted, Says, SaysFound, SaysQuoted, Unquoted}

-- a text of this kind was told, or the other if there was no memory for it
pub quotes : {T E : Type 0} (old new : ErrorStream) (Is : Text → Type 0) (other : Text) (bytes : T → Text) (text : Result T E) → IfOk text (λ t. Is (bytes t)) → MatchResult text (λ t. Says old new (bytes t)) (λ _. Says old new other)
    → SaysQuoted old new Is other
quotes old new Is other bytes (Ok t) is told = Quoted (bytes t) is told
quotes old new Is other bytes (Err e) is told = Unquoted told

-- a complaint of what is shown so, if that is known, was told, or the other text
pub complains : {T E : Type 0} (old new : ErrorStream) (output : Option Text) (place other : Text) (bytes : T → Text) (text : Result T E) → IfOk text (λ t. IfSome output (λ said. bytes t ≡ place ++ line_text said))
    → MatchResult text (λ t. Says old new (bytes t)) (λ _. Says old new other) → IfSome output (λ said. SaysQuoted old new (λ t. t ≡ place ++ line_text said) other)
complains old new None place other bytes text is told = tt
complains old new (Some said) place other bytes text is told = quotes old new (λ t. t ≡ place ++ line_text said) other bytes text is told

-- a text that shows what is to be said, if that is known, holds of it
pub shown : (output : Option Text) (what : Text) (Is : Text → Type 0) → IfSome output (λ said. what ≡ said) → Is what → IfSome output Is
shown None what Is same is = tt
shown (Some said) what Is same is = subst Is same is

-- what was found is reported
pub found : {X : Type 0} (text_of : X → Text) (old new : ErrorStream) (o : Option X) (x : X) (text : Text) → o ≡ Some x → text ≡ text_of x → Says old new text → SaysFound text_of old new o
found text_of old new o x text is same told = subst (SaysFound text_of old new) (sym is) (subst (Says old new) same told)

-- Lines -----------------------------------------------------------------------------------------

-- a line that was put together of words and numbers in turn
pub three_numbers : (t t1 t2 t3 t4 t5 t6 t7 l0 l1 l2 n0 n1 n2 f0 f1 f2 last end : Text)
    → t ≡ [] → t1 ≡ t ++ l0 → t2 ≡ t1 ++ f0 → f0 ≡ n0 → t3 ≡ t2 ++ l1 → t4 ≡ t3 ++ f1 → f1 ≡ n1 → t5 ≡ t4 ++ l2 → t6 ≡ t5 ++ f2 → f2 ≡ n2 → t7 ≡ t6 ++ end → end ≡ last ++ 10 ∷ []
    → t7 ≡ (l0 ++ n0 ++ l1 ++ n1 ++ l2 ++ n2 ++ last) ++ 10 ∷ []
three_numbers t t1 t2 t3 t4 t5 t6 t7 l0 l1 l2 n0 n1 n2 f0 f1 f2 last end e e1 e2 same0 e3 e4 same1 e5 e6 same2 e7 ends = rw (e7, ends, e6, same2, e5, e4, same1, e3, e2, same0, e1, e) (simp append_assoc)

pub four_numbers : (t t1 t2 t3 t4 t5 t6 t7 t8 t9 l0 l1 l2 l3 n0 n1 n2 n3 f0 f1 f2 f3 last end : Text)
    → t ≡ [] → t1 ≡ t ++ l0 → t2 ≡ t1 ++ f0 → f0 ≡ n0 → t3 ≡ t2 ++ l1 → t4 ≡ t3 ++ f1 → f1 ≡ n1 → t5 ≡ t4 ++ l2 → t6 ≡ t5 ++ f2 → f2 ≡ n2 → t7 ≡ t6 ++ l3 → t8 ≡ t7 ++ f3 → f3 ≡ n3 → t9 ≡ t8 ++ end → end ≡ last ++ 10 ∷ []
    → t9 ≡ (l0 ++ n0 ++ l1 ++ n1 ++ l2 ++ n2 ++ l3 ++ n3 ++ last) ++ 10 ∷ []
four_numbers t t1 t2 t3 t4 t5 t6 t7 t8 t9 l0 l1 l2 l3 n0 n1 n2 n3 f0 f1 f2 f3 last end e e1 e2 same0 e3 e4 same1 e5 e6 same2 e7 e8 same3 e9 ends = rw (e9, ends, e8, same3, e7, e6, same2, e5, e4, same1, e3, e2, same0, e1, e) (simp append_assoc)

pub five_numbers : (t t1 t2 t3 t4 t5 t6 t7 t8 t9 t10 t11 l0 l1 l2 l3 l4 n0 n1 n2 n3 n4 f0 f1 f2 f3 f4 last end : Text)
    → t ≡ [] → t1 ≡ t ++ l0 → t2 ≡ t1 ++ f0 → f0 ≡ n0 → t3 ≡ t2 ++ l1 → t4 ≡ t3 ++ f1 → f1 ≡ n1 → t5 ≡ t4 ++ l2 → t6 ≡ t5 ++ f2 → f2 ≡ n2 → t7 ≡ t6 ++ l3 → t8 ≡ t7 ++ f3 → f3 ≡ n3 → t9 ≡ t8 ++ l4 → t10 ≡ t9 ++ f4 → f4 ≡ n4 → t11 ≡ t10 ++ end → end ≡ last ++ 10 ∷ []
    → t11 ≡ (l0 ++ n0 ++ l1 ++ n1 ++ l2 ++ n2 ++ l3 ++ n3 ++ l4 ++ n4 ++ last) ++ 10 ∷ []
five_numbers t t1 t2 t3 t4 t5 t6 t7 t8 t9 t10 t11 l0 l1 l2 l3 l4 n0 n1 n2 n3 n4 f0 f1 f2 f3 f4 last end e e1 e2 same0 e3 e4 same1 e5 e6 same2 e7 e8 same3 e9 e10 same4 e11 ends = rw (e11, ends, e10, same4, e9, e8, same3, e7, e6, same2, e5, e4, same1, e3, e2, same0, e1, e) (simp append_assoc)
