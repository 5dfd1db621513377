-- What a script rests in, after its number.
use Rattle.std.proofs.Common.{◌≡◌, ◌≢◌, ◌∙◌, refl, subst, sym, ℕ, zero, suc, nat_le, List, Bool, true, false}
use Rattle.lsl_value.specs.declared.tagged.Value.{Value}
use Rattle.lsl_code.specs.declared.frames.Frame.{Frame}
use Rattle.lsl_code.specs.declared.woven_units.Woven.{Woven as Code}
use Rattle.lsl_code.specs.Frames.{parked_charge}
use Rattle.lsl_post.specs.declared.parts.Rest.{Rest}
use Rattle.lsl_post.specs.declared.parts.Rest.TheVariants.{Idle}
use Rattle.lsl_image.specs.declared.faults.ImageFault.TheVariants.{Body}
use Rattle.lsl_image.specs.Layout.{Layout, tested}
use Rattle.lsl_image.specs.Reading.{Faults, Gives}
use Rattle.lsl_image.specs.Rest.{dead_rest, rest_of, saved_rest}
use Rattle.lsl_image.proofs.FieldLemmas.{test-fails, test-passes}
use Rattle.lsl_image.specs.Leading.{Leads}
use Rattle.lsl_image.proofs.LeadingLemmas.{leads-ends}

module _ (bytes : List ℕ) (globals : List Value) (most place : ℕ) (frames shown : List Frame)
    (same : shown ≡ frames) (within : Bool) (own : within ≡ nat_le (parked_charge globals shown) most) (q : ℕ)
    (whole : Layout (List Frame)) (start : ℕ)
    (leads : Leads bytes (tested (nat_le (parked_charge globals frames) most) place frames) q (λ fs. fs) whole
    start) where
  tells : within ≡ nat_le (parked_charge globals frames) most
  tells = subst (λ (fs : List Frame). within ≡ nat_le (parked_charge globals fs) most) same own

  pub calls-refused : within ≡ false → Faults bytes whole start (Body place)
  calls-refused bad = leads.faults (Body place)
      (test-fails bytes place frames q (nat_le (parked_charge globals frames) most) (sym tells ∙ bad))

  pub calls-given : within ≡ true → Gives bytes whole start frames q
  calls-given holds = leads.gives frames q
      (test-passes bytes place frames q (nat_le (parked_charge globals frames) most) (sym tells ∙ holds))

module _ (bytes : List ℕ) (unit : Code) (state : ℕ) (exits : Bool) (globals : List Value) (most kind q : ℕ)
    (whole : Layout Rest) (start : ℕ) (leads : Leads bytes (rest_of unit state exits globals most kind) q
    (λ r. r) whole start) where
  pub rest-idle : kind ≡ 0 → Gives bytes whole start Idle q
  rest-idle none = leads-ends (subst (λ (n : ℕ).
      Leads bytes (rest_of unit state exits globals most n) q (λ r. r) whole start) none leads)

  pub rest-saved : kind ≡ 1 → Leads bytes (saved_rest unit state exits globals most) q (λ r. r) whole start
  rest-saved one = subst (λ (n : ℕ). Leads bytes (rest_of unit state exits globals most n) q (λ r. r) whole
      start) one leads

dead-by : (bytes : List ℕ) (unit : Code) (state : ℕ) (exits : Bool) (globals : List Value) (most kind q : ℕ)
    (whole : Layout Rest) (start : ℕ) → kind ≢ 0 → kind ≢ 1
    → Leads bytes (rest_of unit state exits globals most kind) q (λ r. r) whole start
    → Leads bytes dead_rest q (λ r. r) whole start
dead-by bytes unit state exits globals most zero q whole start some more leads = absurd (some refl)
dead-by bytes unit state exits globals most (suc zero) q whole start some more leads = absurd (more refl)
dead-by bytes unit state exits globals most (suc (suc n)) q whole start some more leads = leads

pub rest-dead : (bytes : List ℕ) (unit : Code) (state : ℕ) (exits : Bool) (globals : List Value)
    (most kind q : ℕ) (whole : Layout Rest) (start : ℕ)
    → Leads bytes (rest_of unit state exits globals most kind) q (λ r. r) whole start → kind ≢ 0 → kind ≢ 1
    → Leads bytes dead_rest q (λ r. r) whole start
rest-dead bytes unit state exits globals most kind q whole start leads some more =
    dead-by bytes unit state exits globals most kind q whole start some more leads
