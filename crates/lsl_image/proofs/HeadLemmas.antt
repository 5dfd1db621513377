-- Versions and digests, after their fields; and where the fields of an image end.
use Rattle.std.proofs.Common.{◌≡◌, refl, ℕ, ◌&&◌, nat_le, ◌==◌, cond, List, true, false}
use Rattle.std.specs.Str.{bytes_eq}
use Rattle.lsl_code.specs.declared.woven_units.Woven.{Woven as Code}
use Rattle.lsl_image.specs.declared.faults.ImageFault.TheVariants.{Body, Version, WrongCode}
use Rattle.lsl_image.specs.Layout.{Layout, Ends, Refused, ◌>>=◌, here}
use Rattle.lsl_image.specs.Object.{ends_at}
use Rattle.lsl_image.specs.Reading.{Faults, Gives}
use Rattle.lsl_image.proofs.FieldLemmas.{test-fails, test-passes}

abbrev pub of_version : ℕ → Layout ℕ
of_version version = cond (nat_le 1 version && nat_le version 2) (Ends version) (Refused (Version version))

module _ (bytes : List ℕ) (version q : ℕ) where
  pub version-known : (nat_le 1 version && nat_le version 2) ≡ true → Gives bytes (of_version version) q version q
  version-known good = rw good (refl, refl)

  pub version-unknown : (nat_le 1 version && nat_le version 2) ≡ false
      → Faults bytes (of_version version) q (Version version)
  version-unknown bad = rw bad refl

abbrev pub of_code : Code → List ℕ → Layout (List ℕ)
of_code unit digest = cond (bytes_eq digest unit.digest) (Ends digest) (Refused (WrongCode digest unit.digest))

module _ (bytes : List ℕ) (unit : Code) (digest : List ℕ) (q : ℕ) where
  pub code-right : bytes_eq digest unit.digest ≡ true → Gives bytes (of_code unit digest) q digest q
  code-right good = rw good (refl, refl)

  pub code-wrong : bytes_eq digest unit.digest ≡ false
      → Faults bytes (of_code unit digest) q (WrongCode digest unit.digest)
  code-wrong bad = rw bad refl

module _ (bytes : List ℕ) (end place : ℕ) where
  pub end-right : (place == end) ≡ true → Gives bytes (ends_at end) place place place
  unfolding ends_at here ◌>>=◌
  end-right good = test-passes bytes place place place (place == end) good

  pub end-wrong : (place == end) ≡ false → Faults bytes (ends_at end) place (Body place)
  unfolding ends_at here ◌>>=◌
  end-wrong bad = test-fails bytes place place place (place == end) bad
