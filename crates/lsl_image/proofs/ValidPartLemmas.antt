-- Scripts, stores, objects and worlds that are read are valid.
use Rattle.std.proofs.Common.{◌≡◌, ◌∙◌, refl, sym, ap, subst, arith, eqb-true, ℕ, zero, suc, ◌≤◌, ◌==◌, ◌&&◌, nat_lt, nat_le, cond, List, [], ◌∷◌, ◌++◌, length, Bool, true, false, Option, Some, None, is_some, slice_get, sum_by}
use Rattle.std.proofs.lemmas.Bool.{and_parts, false≢true, leb-true, ltb-true}
use Rattle.std.specs.List.{AllByRecursion}
use Rattle.lsl_value.specs.Key.{is_valid_key}
use Rattle.lsl_running.specs.Charging.{default_limit}
use Rattle.lsl_code.specs.declared.woven_units.Woven.{Woven as Code}
use Rattle.lsl_code.specs.Kinds.{kinds_of}
use Rattle.lsl_code.specs.Units.{handler_of}
use Rattle.lsl_post.specs.declared.parts.Pair.{Pair}
use Rattle.lsl_post.specs.declared.parts.Rest.{Rest}
use Rattle.lsl_post.specs.declared.parts.Rest.TheVariants.{Saved}
use Rattle.lsl_post.specs.declared.parts.ScriptParts.{ScriptParts}
use Rattle.lsl_post.specs.Fitting.{CanRest, FitsStates, FitsUnit, IsInHand, least_limit}
use Rattle.lsl_image.specs.declared.parts.ObjectParts.{ObjectParts}
use Rattle.lsl_image.specs.declared.parts.Placed.{Placed}
use Rattle.lsl_image.specs.declared.parts.Shape.{Shape}
use Rattle.lsl_image.specs.declared.parts.WorldParts.{WorldParts}
use Rattle.lsl_image.specs.Layout.{Ends, U8, U16, U32, U64, TextForm, ◌>>=◌, field, field_that, grown}
use Rattle.lsl_image.specs.Object.{body, finds_room, is_above, object, pair, pair_behind, pair_bytes, script_of, store}
use Rattle.lsl_image.specs.Rest.{dead_rest, rest, rest_of, saved_calls, saved_rest, script}
use Rattle.lsl_image.specs.Script.{limit}
use Rattle.lsl_image.specs.Valid.{Ascend, HasUnit, IsObject, IsPair, IsPlaced, IsStore, IsWorld}
use Rattle.lsl_image.specs.World.{most_clock, placed, world}
use Rattle.lsl_image.proofs.GivenLemmas.{Given, each-all, each-long, each-push, ended, field-told, grown-long, split, tested-told, that-told}
use Rattle.lsl_image.proofs.ValidLemmas.{event-stands, leaving-may, queue-may, values-kinds_are}
use Rattle.lsl_image.proofs.ValidCallLemmas.{calls-valid}
use Rattle.lsl_image.proofs.StandLemmas.{stands-exit, stands-handled}

module _ (bytes : List ℕ) where
  limit-told : (version p most q : ℕ) → Given bytes (limit version) p most q
      → (least_limit ≤ most) × (most ≤ default_limit)
  unfolding limit
  limit-told version p most q g = by (version == 1) p most q g
    where
      by : (one : Bool) (p most q : ℕ)
          → Given bytes (cond one (Ends default_limit)
          (field_that U32 (λ n. nat_le least_limit n && nat_le n default_limit))) p most q
          → (least_limit ≤ most) × (most ≤ default_limit)
      by true p most q g = (omega (arith, ended g), omega (arith, ended g))
      by false p most q g =
          let t = that-told U32 (λ n. nat_le least_limit n && nat_le n default_limit) g in
          let parts = and_parts (nat_le least_limit most) (nat_le most default_limit) t.holds in
          (leb-true least_limit most parts.0, leb-true most default_limit parts.1)

  module _ (unit : Code) where
    handler-some : (o : Option ℕ) → is_some o ≡ true → (h : ℕ) × (o ≡ Some h)
    handler-some None some = absurd (false≢true some)
    handler-some (Some h) some = (h, refl)

    saved-may : (s : ScriptParts) (p : ℕ) (r : Rest) (q : ℕ)
        → Given bytes (saved_rest unit s.state (is_some s.leaving) s.globals s.limit) p r q
        → CanRest unit s.state s.leaving s.globals s.limit r
    unfolding saved_rest
    saved-may s p r q g =
        let first = split g in
        let second = split first.rest in
        let stands = event-stands bytes unit s.state (is_some s.leaving) p first.value first.middle first.first in
        let handled = handler-some (handler_of unit.states s.state first.value.id)
        (stands-handled unit s.state (is_some s.leaving) first.value stands) in
        let calls : Given bytes (saved_calls unit s.globals s.limit (Some handled.0)) first.middle second.value
        second.middle =
        subst (λ (o : Option ℕ). Given bytes (saved_calls unit s.globals s.limit o) first.middle second.value
        second.middle) handled.1 second.first in
        let hand : IsInHand unit.states s.state s.leaving first.value handled.0 =
        record { handled = handled.1; exit = stands-exit unit s.state (is_some s.leaving) first.value stands } in
        let saved : CanRest unit s.state s.leaving s.globals s.limit (Saved first.value second.value) = (
          handled.0,
          hand,
          calls-valid bytes unit handled.0 s.globals s.limit first.middle second.value second.middle calls,
        ) in
        subst (CanRest unit s.state s.leaving s.globals s.limit) (sym (ended second.rest)) saved

    -- what a script rests in, whatever its other parts are
    rest-may : (s : ScriptParts) (kind p : ℕ) (r : Rest) (q : ℕ)
        → Given bytes (rest_of unit s.state (is_some s.leaving) s.globals s.limit kind) p r q
        → CanRest unit s.state s.leaving s.globals s.limit r
    unfolding dead_rest
    rest-may s zero p r q g = subst (CanRest unit s.state s.leaving s.globals s.limit) (sym (ended g)) tt
    rest-may s (suc zero) p r q g = saved-may s p r q g
    rest-may s (suc (suc n)) p r q g =
        subst (CanRest unit s.state s.leaving s.globals s.limit) (sym (ended (split g).rest)) tt

    script-valid : (version number p : ℕ) (s : ScriptParts) (q : ℕ) → Given bytes (script version number unit) p s q
        → (s.unit ≡ number) × FitsUnit unit s
    unfolding script rest
    script-valid version number p s q g =
        let coded = split g in
        let stated = split coded.rest in
        let left = split stated.rest in
        let kept = split left.rest in
        let waiting = split kept.rest in
        let heard = split waiting.rest in
        let ticking = split heard.rest in
        let awake = split ticking.rest in
        let most = split awake.rest in
        let resting = split most.rest in
        let kind = split resting.first in
        let made : ScriptParts = record {
          unit = number;
          globals = kept.value;
          limit = most.value;
          state = stated.value;
          leaving = left.value;
          queue = waiting.value;
          listens = heard.value;
          timer = ticking.value;
          wake = awake.value;
          rest = resting.value;
        } in
        let is : s ≡ made = ended resting.rest in
        let limits = limit-told version awake.middle most.value most.middle most.first in
        let states : FitsStates unit.states stated.value left.value waiting.value = record {
          stands = ltb-true stated.value (length unit.states)
              (that-told U16 (λ n. nat_lt n (length unit.states)) stated.first).holds;
          leaves = leaving-may bytes unit stated.value stated.middle left.value left.middle left.first;
          waits = queue-may bytes unit stated.value kept.middle waiting.value waiting.middle waiting.first;
        } in
        let valid : FitsUnit unit made = record {
          states = states;
          globals = values-kinds_are bytes (kinds_of unit.globals) left.middle kept.value kept.middle kept.first;
          least = limits.0;
          limit = limits.1;
          rest = rest-may made kind.value kind.middle resting.value resting.middle kind.rest;
        } in
        (ap (λ (x : ScriptParts). x.unit) is, subst (FitsUnit unit) (sym is) valid)

  module _ (library : List Code) (version number : ℕ) where
    unit-valid : (found : Option Code) → found ≡ slice_get library number → (p : ℕ) (s : ScriptParts) (q : ℕ)
        → Given bytes (script_of version number found) p s q → HasUnit library s
    unit-valid None known p s q g = absurd (split g).rest.gives
    unit-valid (Some unit) known p s q g =
        let told = script-valid unit version number p s q g in
        record { unit = unit; named = ap (slice_get library) told.0 ∙ sym known; script = told.1 }

  -- a pair after these
  pair-told : (before : List Pair) (p : ℕ) (x : Pair) (q : ℕ) → Given bytes (pair_behind before) p x q
      → IsPair x × (is_above x.name before ≡ true) × (finds_room (before ++ x ∷ []) ≡ true)
  unfolding pair_behind
  pair-told before p x q g =
      let placed = split g in
      let named = split placed.rest in
      let checked = split named.rest in
      let valued = split checked.rest in
      let first = tested-told (nat_lt 0 (length named.value) && is_above named.value before) placed.value checked.first
      in
      let made = pair named.value valued.value in
      let last = tested-told (nat_lt 0 (length valued.value) && finds_room (before ++ made ∷ [])) placed.value
      valued.rest in
      let name = and_parts (nat_lt 0 (length named.value)) (is_above named.value before) first.holds in
      let value = and_parts (nat_lt 0 (length valued.value)) (finds_room (before ++ made ∷ [])) last.holds in
      let is_pair : IsPair made = record {
        name = ltb-true 0 (length named.value) name.0;
        value = ltb-true 0 (length valued.value) value.0;
      } in
      let is : x ≡ made = last.same in (
        subst IsPair (sym is) is_pair,
        subst (λ (y : Pair). is_above y.name before ≡ true) (sym is) name.1,
        subst (λ (y : Pair). finds_room (before ++ y ∷ []) ≡ true) (sym is) value.1,
      )

  record Kept (pairs : List Pair) : Type 0 where
    each : AllByRecursion IsPair pairs
    ascend : Ascend pairs
    room : finds_room pairs ≡ true

  ascend-push : (pairs : List Pair) (x : Pair) → Ascend pairs → is_above x.name pairs ≡ true → Ascend (pairs ++ x ∷ [])
  ascend-push [] x all above = tt
  ascend-push (p ∷ []) x all above = (above, tt)
  ascend-push (p ∷ q ∷ pairs) x all above = (all.0, ascend-push (q ∷ pairs) x all.1 above)

  pairs-kept : (n : ℕ) (before : List Pair) (p : ℕ) (pairs : List Pair) (q : ℕ)
      → Given bytes (grown n pair_behind before) p pairs q → Kept before → Kept pairs
  unfolding grown
  pairs-kept zero before p pairs q g kept = subst Kept (sym (ended g)) kept
  pairs-kept (suc n) before p pairs q g kept =
      let s = split g in
      let told = pair-told before p s.value s.middle s.first in
      pairs-kept n (before ++ s.value ∷ []) s.middle pairs q s.rest (record {
        each = each-push IsPair before s.value kept.each told.0;
        ascend = ascend-push before s.value kept.ascend told.1;
        room = told.2;
      })

  store-valid : (version p : ℕ) (pairs : List Pair) (q : ℕ) → Given bytes (store version) p pairs q → IsStore pairs
  unfolding store
  store-valid version p pairs q g = by (version == 1) g
    where
      none : IsStore []
      none = record { few = omega arith; each = tt; ascend = tt; room = omega arith }

      by : (one : Bool)
          → Given bytes (cond one (Ends []) (field U16 >>= λ count. grown count pair_behind [])) p pairs q
          → IsStore pairs
      by true g = subst IsStore (sym (ended g)) none
      by false g =
          let s = split g in
          let kept = pairs-kept s.value [] s.middle pairs q s.rest
          (record { each = tt; ascend = tt; room = refl }) in
          let long = grown-long pair_behind s.value [] s.middle pairs q s.rest in
          record {
            few = omega (arith, field-told U16 s.first, long);
            each = kept.each;
            ascend = kept.ascend;
            room = leb-true (sum_by pair_bytes pairs) 65536 kept.room;
          }

  body-valid : (version : ℕ) (shape : Shape) (library : List Code) → is_valid_key shape.key ≡ true
      → (p : ℕ) (o : ObjectParts) (q : ℕ) → Given bytes (body version shape library) p o q → IsObject library o
  unfolding body
  body-valid version shape library key p o q g =
      let keyed = split g in
      let counted = split keyed.rest in
      let named = split counted.rest in
      let numbered = split named.rest in
      let scripted = split numbered.rest in
      let stored = split scripted.rest in
      let made : ObjectParts = record {
        key = shape.key;
        names = named.value;
        scripts = scripted.value;
        store = stored.value;
      } in
      let is : o ≡ made = ended stored.rest in
      let prims = that-told U8 (λ n. n == shape.prims) counted.first in
      let count = that-told U16 (λ n. n == length shape.units) numbered.first in
      let names_long = grown-long (λ before. field TextForm) shape.prims [] counted.middle named.value named.middle
      named.first in
      let scripts_long = each-long (λ number. script_of version number (slice_get library number)) shape.units []
      numbered.middle scripted.value scripted.middle scripted.first in
      let valid : IsObject library made = record {
        key = key;
        prims = omega (arith, prims.fits, eqb-true counted.value shape.prims prims.holds, names_long);
        count = omega (arith, count.fits, eqb-true numbered.value (length shape.units) count.holds, scripts_long);
        scripts = each-all (λ number. script_of version number (slice_get library number)) (λ number. Unit {0})
            (HasUnit library) (λ number any p s q h. unit-valid library version number (slice_get library number) refl p
            s q h) shape.units (any-all shape.units) [] numbered.middle scripted.value scripted.middle scripted.first
            tt;
        store = store-valid version scripted.middle stored.value stored.middle stored.first;
      } in
      subst (IsObject library) (sym is) valid
    where
      any-all : (ns : List ℕ) → AllByRecursion (λ n. Unit {0}) ns
      any-all [] = tt
      any-all (n ∷ ns) = (tt, any-all ns)

  pub object-valid : (region : List ℕ) (shape : Shape) (library : List Code) (end : ℕ)
      → is_valid_key shape.key ≡ true → (p : ℕ) (o : ObjectParts) (q : ℕ)
      → Given bytes (object region shape library end) p o q → IsObject library o
  unfolding object
  object-valid region shape library end key p o q g =
      let headed = split g in
      let sent = split headed.rest in
      let read = split sent.rest in
      let last = split read.rest in
      subst (IsObject library) (sym (ended last.rest))
      (body-valid headed.value shape library key sent.middle read.value read.middle read.first)

  placed-valid : (version : ℕ) (library : List Code) (shape : Shape) → is_valid_key shape.key ≡ true
      → (p : ℕ) (o : Placed) (q : ℕ) → Given bytes (placed version library shape) p o q → IsPlaced library o
  unfolding placed
  placed-valid version library shape key p o q g =
      let named = split g in
      let read = split named.rest in
      subst (IsPlaced library) (sym (ended read.rest))
      (body-valid version shape library key named.middle read.value read.middle read.first)

  pub world-valid : (shapes : List Shape) (library : List Code) (end : ℕ)
      → AllByRecursion (λ s. is_valid_key s.key ≡ true) shapes → (p : ℕ) (w : WorldParts) (q : ℕ)
      → Given bytes (world shapes library end) p w q → IsWorld library w
  unfolding world
  world-valid shapes library end keys p w q g =
      let headed = split g in
      let timed = split headed.rest in
      let counted = split timed.rest in
      let read = split counted.rest in
      let last = split read.rest in
      let made : WorldParts = record { clock = timed.value; objects = read.value } in
      let is : w ≡ made = ended last.rest in
      let clock = that-told U64 (λ n. nat_le n most_clock) timed.first in
      let count = that-told U8 (λ n. n == length shapes) counted.first in
      let long = each-long (placed headed.value library) shapes [] counted.middle read.value read.middle read.first in
      let valid : IsWorld library made = record {
        clock = leb-true timed.value most_clock clock.holds;
        count = omega (arith, count.fits, eqb-true counted.value (length shapes) count.holds, long);
        objects = each-all (placed headed.value library) (λ s. is_valid_key s.key ≡ true) (IsPlaced library)
            (λ s key p o q h. placed-valid headed.value library s key p o q h) shapes keys [] counted.middle read.value
            read.middle read.first tt;
      } in
      subst (IsWorld library) (sym is) valid
