use Rattle.std.proofs.Common.{arith, ◌≡◌, ◌+◌, ◌%◌, ◌^◌, ℕ, false, ap, ◌∙◌, sym, subst}
use mathlib.Core.Option.{none}
use Rattle.atomic_table.specs.Table.{Me, Allows, step}
use Rattle.mh_model.specs.History.{has_ended}
use Rattle.mh_seat_laws.specs.ClaimWord.{Lists, IsClaimed}
use Rattle.mh_claims.specs.Steps.{first_list, Draws}
use Rattle.mh_claims.proofs.ClaimSteps.{draw-allowed}
use Rattle.mh_claims.proofs.claims.Claims.take_number.Goals as goal

pub fetch_add-requires : goal.fetch_add-requires
fetch_add-requires g c =
    let claims = c.self.inside in
    let seat = c.args.seat.now in
    let slots : ℕ = claims.table.shared.table_id.slots in
    let about : ℕ × ℕ = (claims.bound, claims.seats) in
    let bound : c.args.self.now.bound ≡ claims.bound = sym (ap (λ s. s.bound) c.self.view_is) in
    let named : g.A.About.about ≡ about = c.requires.about ∙ sym (ap (λ s. (s.bound, s.seats)) c.self.view_is) in
    let going : has_ended claims.bound (first_list seat.me) ≡ false = subst (λ (n : ℕ). has_ended n (first_list seat.me) ≡ false) bound c.requires.going in
    let Fits : ℕ × ℕ → ℕ × ℕ → Me (Unit {0}) Lists → Type 0 = λ key told me. Allows (IsClaimed key) slots seat.id me 0 (λ word. (word + 1) % 2 ^ 64) (Draws told (step slots 0 1 0 none) me) in (
      c.requires.own ∙ sym (ap (λ s. s.table) c.self.view_is),
      omega (arith, c.self.invariant.1),
      subst
          (λ told. Fits claims.table.shared.key told seat.me)
          (sym named)
          (subst
          (λ key. Fits key about seat.me)
          (sym c.self.invariant.3)
          (subst (Fits about about) (sym c.requires.alone) (draw-allowed about slots seat.id (first_list seat.me) going))),
    )
