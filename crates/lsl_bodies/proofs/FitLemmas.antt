-- What tests of kinds say about the kinds.
use Rattle.std.proofs.Common.{◌≡◌, true, refl, sym, ap, ◌∙◌}
use Rattle.std.specs.Prelude.{◌≢◌}
use Rattle.lsl_value.specs.declared.tagged.Kind.{Kind}
use Rattle.lsl_value.specs.declared.tagged.Kind.TheVariants.{Int, Str, Key, List as ListKind}
use Rattle.lsl_value.specs.OperatorRows.{casts_of, casts_implicitly_of}
use Rattle.lsl_bodies.specs.Conversions.{Fit, Same, ByCast, Not, fit_of, is_int, is_no_list}

-- a value fits if it has the wanted kind, or if there is an implicit cast and it isn't a list
abbrev pub Fits : Fit → Kind → Kind → Type 0
Fits Same found wanted = found ≡ wanted
Fits ByCast found wanted = (casts_of found wanted ≡ true) × (casts_implicitly_of found wanted ≡ true) × (found ≢ ListKind)
Fits Not found wanted = Unit {0}

pub fit_fits : (found wanted : Kind) → Fits (fit_of found wanted) found wanted
fit_fits Int Int = refl
fit_fits Int Str = tt
fit_fits Int Key = tt
fit_fits Int ListKind = tt
fit_fits Str Int = tt
fit_fits Str Str = refl
fit_fits Str Key = (refl, refl, λ e. absurd (cc))
fit_fits Str ListKind = tt
fit_fits Key Int = tt
fit_fits Key Str = (refl, refl, λ e. absurd (cc))
fit_fits Key Key = refl
fit_fits Key ListKind = tt
fit_fits ListKind Int = tt
fit_fits ListKind Str = tt
fit_fits ListKind Key = tt
fit_fits ListKind ListKind = refl

pub is_int-int : (k : Kind) → is_int k ≡ true → k ≡ Int
is_int-int Int h = refl
is_int-int Str h = absurd (cc)
is_int-int Key h = absurd (cc)
is_int-int ListKind h = absurd (cc)

pub is_no_list-apart : (k : Kind) → is_no_list k ≡ true → k ≢ ListKind
is_no_list-apart k h e = let t : is_no_list ListKind ≡ true = sym (ap is_no_list e) ∙ h in absurd (cc)
