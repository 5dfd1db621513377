-- Where a call is too big.
use Rattle.std.specs.Prelude.{◌≡◌, Result, IfErr}
use Rattle.lsl_pure.specs.declared.PureFault.{PureFault}
use Rattle.lsl_pure.specs.declared.PureFault.TheVariants.{TooBig}

-- too big is answered only where this holds
abbrev pub TooBigOnlyWhere : {T : Type 0} → Result T PureFault → Type 0 → Type 0
TooBigOnlyWhere result P = IfErr result (λ fault. fault ≡ TooBig → P)
