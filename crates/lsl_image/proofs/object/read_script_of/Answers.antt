use Rattle.std.proofs.Common.{◌≡◌, refl, subst, sym, arith, ℕ, List, Option, None, slice_get}
use Rattle.std.proofs.lemmas.Option.{slice_get_past}
use Rattle.lsl_code.specs.declared.woven_units.Woven.{Woven as Code}
use Rattle.lsl_image.specs.declared.faults.ImageFault.TheVariants.{Body}
use Rattle.lsl_image.specs.Layout.{◌>>=◌, here}
use Rattle.lsl_image.specs.Object.{script_of}
use Rattle.lsl_image.specs.Reading.{Faults}
use Rattle.lsl_image.proofs.object.read_script_of.Goals as goal

no_unit : (bytes : List ℕ) (version number p : ℕ) (unit : Option Code) → None ≡ unit
    → Faults bytes (script_of version number unit) p (Body p)
unfolding here ◌>>=◌
no_unit bytes version number p unit none =
    subst (λ (u : Option Code). Faults bytes (script_of version number u) p (Body p)) none refl

pub returns-then-number-len : goal.returns-then-number-len
returns-then-number-len c =
    rw c.wrong.ensures (no_unit c.args.bytes.now c.args.version c.args.number c.args.place
    (slice_get c.args.library.now c.args.number)
    (sym (slice_get_past c.args.library.now c.args.number (omega (arith, c.len.ensures, c.if-number-len.true)))))
