-- The test of which events may be there is that of which wait, or are current.
use Rattle.std.proofs.Common.{◌≡◌, refl, sym, ℕ, not, Bool, true, false}
use Rattle.std.specs.Prelude.{if◌then◌else◌}
use Rattle.std.proofs.lemmas.Bool.{and_from, and_parts}
use Rattle.lsl_code.specs.declared.woven_units.Woven.{Woven as Code}
use Rattle.lsl_post.specs.declared.events.Event.{Event}
use Rattle.lsl_post.specs.Fitting.{CanWait, has_handler, is_exit}
use Rattle.lsl_image.specs.Script.{may_stand}

exit-is : (exit exits : Bool) → (if exits then exit else not exit) ≡ true → exit ≡ exits
exit-is true true e = refl
exit-is false true e = e
exit-is true false e = sym e
exit-is false false e = refl

is-exit : (exit exits : Bool) → exit ≡ exits → (if exits then exit else not exit) ≡ true
is-exit true true e = refl
is-exit false true e = e
is-exit true false e = sym e
is-exit false false e = refl

module _ (unit : Code) (state : ℕ) where
  module _ (exits : Bool) (e : Event) where
    pub stands-handled : may_stand unit state exits e.id ≡ true → has_handler unit.states state e.id ≡ true
    stands-handled stands =
        (and_parts (has_handler unit.states state e.id) (if exits then is_exit e else not (is_exit e)) stands).0

    pub stands-exit : may_stand unit state exits e.id ≡ true → is_exit e ≡ exits
    stands-exit stands =
        exit-is (is_exit e) exits
        (and_parts (has_handler unit.states state e.id) (if exits then is_exit e else not (is_exit e)) stands).1

    pub handled-stands : has_handler unit.states state e.id ≡ true → is_exit e ≡ exits
        → may_stand unit state exits e.id ≡ true
    handled-stands handled exit =
        and_from (has_handler unit.states state e.id) (if exits then is_exit e else not (is_exit e)) handled
        (is-exit (is_exit e) exits exit)

  pub stands-waits : (e : Event) → may_stand unit state false e.id ≡ true → CanWait unit.states state e
  stands-waits e stands = record { handled = stands-handled false e stands; other = stands-exit false e stands }

  pub waits-stands : (e : Event) → CanWait unit.states state e → may_stand unit state false e.id ≡ true
  waits-stands e waits = handled-stands false e waits.handled waits.other
