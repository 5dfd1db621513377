-- Scripts, stores and objects, spelled.
use Rattle.std.proofs.Common.{◌≡◌, ◌∙◌, refl, sym, ap, subst, arith, eq-eqb, ℕ, suc, ◌+◌, ◌≤◌, ◌==◌, ◌&&◌, nat_lt, nat_le, cond, List, [], ◌∷◌, ◌++◌, length, map, append_assoc, Bool, true, Option, slice_get, sum_by}
use Rattle.std.proofs.lemmas.Bool.{and_from}
use Rattle.std.proofs.lemmas.Bool.Decides.{nat_tests}
use Rattle.std.proofs.lemmas.List.Sums.{sum_by-append}
use Rattle.std.proofs.lemmas.Slice.Eq.{bytes_eq-Decides}
use Rattle.std.specs.List.{flat_map, AllByRecursion}
use Rattle.lsl_value.specs.Text.{IsText}
use Rattle.lsl_running.specs.Charging.{default_limit}
use Rattle.lsl_code.specs.declared.woven_units.Woven.{Woven as Code}
use Rattle.lsl_code.specs.Kinds.{kinds_of}
use Rattle.lsl_post.specs.declared.parts.Pair.{Pair}
use Rattle.lsl_post.specs.declared.parts.ScriptParts.{ScriptParts}
use Rattle.lsl_post.specs.Fitting.{FitsUnit, least_limit}
use Rattle.lsl_bytes.specs.Fields.{text_bytes, u8_bytes, u16_bytes, u32_bytes, u64_bytes}
use Rattle.lsl_image.specs.declared.faults.ImageFault.TheVariants.{WrongCode}
use Rattle.lsl_image.specs.declared.parts.ObjectParts.{ObjectParts}
use Rattle.lsl_image.specs.Bytes.{body_bytes, both_bytes, digest_of, leaving_bytes, library_script_bytes, listens_bytes, names_bytes, queue_bytes, rest_bytes, script_bytes, scripts_bytes, store_bytes, timer_bytes, uuid_bytes, values_bytes, waiting_bytes}
use Rattle.lsl_image.specs.Fits.{FitsIn, FitsKey, FitsObject, FitsPair, FitsScript}
use Rattle.lsl_image.specs.Layout.{Bytes, Ends, Refused, TextForm, U16, U32, U64, U8, field, field_that}
use Rattle.lsl_image.specs.Object.{are_these, body, finds_room, is_above, key_bytes, pair_behind, pair_bytes, script_of, store}
use Rattle.lsl_image.specs.Rest.{code_digest, script}
use Rattle.lsl_image.specs.Script.{limit}
use Rattle.lsl_image.specs.Valid.{Ascend, HasUnit, IsObject, IsPair, IsStore, shape_of, unit_number}
use Rattle.lsl_image.proofs.SpeltCallLemmas.{rest-spells}
use Rattle.lsl_image.proofs.SpeltEventLemmas.{leaving-spells, queue-spells, timer-spells, values-spells}
use Rattle.lsl_image.proofs.SpeltListenLemmas.{listens-spells}
use Rattle.lsl_image.proofs.SpeltLemmas.{GoodBehind, Spelt, good-all, good-cons, good-nil, spelt-as, spelt-each, spelt-ends, spelt-field, spelt-grown, spelt-here, spelt-last, spelt-tested, spelt-that, spelt-then}
use Rattle.lsl_image.proofs.WroteLemmas.{script-few}

left-four : (a b c d : List ℕ) → a ++ (b ++ (c ++ d)) ≡ a ++ b ++ c ++ d
left-four a b c d = simp append_assoc

left-five : (a b c d e : List ℕ) → a ++ (b ++ (c ++ (d ++ e))) ≡ a ++ b ++ c ++ d ++ e
left-five a b c d e = simp append_assoc

left-six : (a b c d e f : List ℕ) → a ++ (b ++ (c ++ (d ++ (e ++ f)))) ≡ a ++ b ++ c ++ d ++ e ++ f
left-six a b c d e f = simp append_assoc

code-spells : (unit : Code) (p : ℕ) → length unit.digest ≡ 32 → Spelt (code_digest unit) p unit.digest unit.digest
unfolding code_digest
code-spells unit p whole =
    spelt-last _ (spelt-field (Bytes 32) unit.digest whole) (subst (λ (b : Bool).
    Spelt (cond b (Ends unit.digest) (Refused (WrongCode unit.digest unit.digest)))
    (p + length unit.digest) unit.digest [])
    (sym ((bytes_eq-Decides unit.digest unit.digest).1 refl)) (spelt-ends refl))

limit-spells : (most p : ℕ) → least_limit ≤ most → most ≤ default_limit → Spelt (limit 2) p most (u32_bytes most)
unfolding limit
limit-spells most p least within =
    spelt-that U32 (λ n. nat_le least_limit n && nat_le n default_limit) most (omega (arith, within))
    (and_from (nat_le least_limit most) (nat_le most default_limit) (grind (arith, nat_tests, least))
    (grind (arith, nat_tests, within)))

script-spells : (library : List Code) (s : ScriptParts) (unit : Code) (p : ℕ) → HasUnit library s
    → FitsUnit unit s → length unit.digest ≡ 32 → FitsScript s
    → Spelt (script 2 s.unit unit) p s (script_bytes 2 unit.digest s)
unfolding script script_bytes waiting_bytes
script-spells library s unit p has is whole fits =
    let w = fits.waiting in
    let waiting = left-six (queue_bytes s.queue) (listens_bytes s.listens) (timer_bytes s.timer) (u64_bytes s.wake)
    (u32_bytes s.limit) (rest_bytes s.rest) in
    spelt-as (ap (λ (t : List ℕ). unit.digest ++ (u16_bytes s.state ++ (leaving_bytes s.leaving
    ++ (values_bytes s.globals ++ t)))) waiting
    ∙ left-five unit.digest (u16_bytes s.state) (leaving_bytes s.leaving) (values_bytes s.globals)
    (queue_bytes s.queue ++ listens_bytes s.listens ++ timer_bytes s.timer ++ u64_bytes s.wake ++ u32_bytes s.limit
    ++ rest_bytes s.rest))
    (spelt-then _ (code-spells unit p whole)
    (spelt-then _ (spelt-that U16 (λ n. nat_lt n (length unit.states)) s.state fits.state
    (grind (arith, nat_tests, is.states.stands)))
    (spelt-then _ (leaving-spells unit s.state s.leaving _ is.states.leaves fits.leaving)
    (spelt-then _ (values-spells (kinds_of unit.globals) s.globals _ is.globals fits.globals)
    (spelt-then _ (queue-spells unit s.state s.queue _ w.queue is.states.waits)
    (spelt-then _ (listens-spells s.listens _ w.listens)
    (spelt-then _ (timer-spells s.timer _ w.timer)
    (spelt-then _ (spelt-field U64 s.wake w.wake)
    (spelt-then _ (limit-spells s.limit _ is.least is.limit)
    (spelt-last _ (rest-spells unit s s.rest _ is.rest (script-few library s has) w.rest) (spelt-ends refl)))))))))))

-- a script of the library
of-spells : (library : List Code) (s : ScriptParts) (p : ℕ) → HasUnit library s → FitsIn library s
    → Spelt (script_of 2 s.unit (slice_get library s.unit)) p s (library_script_bytes 2 library s)
of-spells library s p has fits =
    let whole : length has.unit.digest ≡ 32 =
    subst (λ (o : Option Code). length (digest_of o) ≡ 32) has.named fits.digest in
    subst (λ (o : Option Code). Spelt (script_of 2 s.unit o) p s (script_bytes 2 (digest_of o) s)) (sym has.named)
    (script-spells library s has.unit p has has.script whole fits.script)

ascend-above : (before : List Pair) (x : Pair) (others : List Pair) → Ascend (before ++ x ∷ others)
    → is_above x.name before ≡ true
ascend-above [] x others ascend = refl
ascend-above (p ∷ []) x others ascend = ascend.0
ascend-above (p ∷ q ∷ pairs) x others ascend = ascend-above (q ∷ pairs) x others ascend.1

record GoodPair (before : List Pair) (x : Pair) : Type 0 where
  pair : IsPair x
  above : is_above x.name before ≡ true
  room : finds_room (before ++ x ∷ []) ≡ true
  fits : FitsPair x

pair-spells : (before : List Pair) (x : Pair) (p : ℕ) → GoodPair before x
    → Spelt (pair_behind before) p x (both_bytes x)
unfolding pair_behind both_bytes
pair-spells before x p good =
    spelt-here _ (spelt-then _ (spelt-field TextForm x.name good.fits.name)
    (spelt-then _ (spelt-tested (nat_lt 0 (length x.name) && is_above x.name before) p x.name
    (and_from (nat_lt 0 (length x.name)) (is_above x.name before)
    (grind (arith, nat_tests, good.pair.name)) good.above))
    (spelt-last _ (spelt-field TextForm x.value good.fits.value)
    (spelt-tested (nat_lt 0 (length x.value) && finds_room (before ++ x ∷ [])) p x
    (and_from (nat_lt 0 (length x.value)) (finds_room (before ++ x ∷ [])) (grind (arith, nat_tests, good.pair.value))
    good.room)))))

pairs-good : (before pairs : List Pair) → Ascend (before ++ pairs) → sum_by pair_bytes (before ++ pairs) ≤ 65536
    → AllByRecursion IsPair pairs → AllByRecursion FitsPair pairs → GoodBehind GoodPair before pairs
pairs-good before [] ascend room are fits = good-nil GoodPair before
pairs-good before (x ∷ xs) ascend room are fits =
    let same : (before ++ x ∷ []) ++ xs ≡ before ++ x ∷ xs = append_assoc before (x ∷ []) xs in
    let total : sum_by pair_bytes ((before ++ x ∷ []) ++ xs) ≤ 65536 =
    subst (λ (ps : List Pair). sum_by pair_bytes ps ≤ 65536) (sym same) room in
    let few : sum_by pair_bytes (before ++ x ∷ []) ≤ 65536 =
    omega (arith, total, sum_by-append pair_bytes (before ++ x ∷ []) xs) in
    good-cons GoodPair before x xs
    (record {
      pair = are.0;
      above = ascend-above before x xs ascend;
      room = grind
          (arith, nat_tests, few);
      fits = fits.0;
    })
    (pairs-good (before ++ x ∷ []) xs (subst Ascend (sym same) ascend) total are.1 fits.1)

store-spells : (pairs : List Pair) (p : ℕ) → IsStore pairs → AllByRecursion FitsPair pairs
    → Spelt (store 2) p pairs (store_bytes 2 pairs)
unfolding store
store-spells pairs p is fits =
    spelt-then _ (spelt-field U16 (length pairs) (omega (arith, is.few)))
    (spelt-grown pair_behind both_bytes GoodPair pair-spells pairs _
    (pairs-good [] pairs is.ascend is.room is.each fits))

key-spells : (key : List ℕ) (p : ℕ) (fits : FitsKey key)
    → Spelt (field_that (Bytes 16) (are_these (key_bytes key))) p fits.0 (uuid_bytes (key_bytes key))
key-spells key p fits =
    let same : are_these (key_bytes key) fits.0 ≡ true =
    ap (λ (o : Option (List ℕ)). are_these o fits.0) fits.1 ∙ (bytes_eq-Decides fits.0 fits.0).1 refl in
    spelt-as (sym (ap uuid_bytes fits.1)) (spelt-that (Bytes 16) (are_these (key_bytes key)) fits.0 fits.2 same)

scripts-spells : (library : List Code) (scripts : List ScriptParts) → AllByRecursion (HasUnit library) scripts
    → AllByRecursion (FitsIn library) scripts
    → AllByRecursion (λ s. HasUnit library s × FitsIn library s) scripts
scripts-spells library [] has fits = tt
scripts-spells library (s ∷ scripts) has fits = ((has.0, fits.0), scripts-spells library scripts has.1 fits.1)

pub body-spells : (library : List Code) (o : ObjectParts) (p : ℕ) → IsObject library o → FitsObject library o
    → Spelt (body 2 (shape_of o) library) p o (body_bytes 2 library o)
unfolding body body_bytes names_bytes scripts_bytes
body-spells library o p is fits =
    let names = flat_map text_bytes o.names in
    let scripts = flat_map (library_script_bytes 2 library) o.scripts in
    let prims = u8_bytes (length o.names) in
    let count = u16_bytes (length o.scripts) in
    spelt-as (regrouped (uuid_bytes (key_bytes o.key)) prims names count scripts (store_bytes 2 o.store))
    (spelt-then _ (key-spells o.key p fits.key)
    (spelt-then _ (spelt-that U8 (λ n. n == length o.names) (length o.names) (omega (arith, is.prims))
    (eq-eqb (length o.names) (length o.names) refl))
    (spelt-then _ (spelt-grown (λ before. field TextForm) text_bytes (λ before t. IsText t)
    (λ before t q text. spelt-field TextForm t text) o.names _ (good-all IsText [] o.names fits.names))
    (spelt-then _ (spelt-that U16 (λ n. n == length (map unit_number o.scripts)) (length o.scripts)
    (omega (arith, is.count)) (eq-eqb (length o.scripts) (length (map unit_number o.scripts))
    (sym (length-units o.scripts))))
    (spelt-then _ (spelt-each (λ number. script_of 2 number (slice_get library number)) unit_number
    (library_script_bytes 2 library) (λ s. HasUnit library s × FitsIn library s)
    (λ s q good. of-spells library s q good.0 good.1) o.scripts _
    (scripts-spells library o.scripts is.scripts fits.scripts))
    (spelt-last _ (store-spells o.store _ is.store fits.store) (spelt-ends refl)))))))
  where
    regrouped : (a b c d e f : List ℕ) → a ++ (b ++ (c ++ (d ++ (e ++ f)))) ≡ a ++ (b ++ c) ++ (d ++ e) ++ f
    regrouped a b c d e f = simp append_assoc

    length-units : (scripts : List ScriptParts) → length (map unit_number scripts) ≡ length scripts
    length-units [] = refl
    length-units (s ∷ scripts) = ap suc (length-units scripts)
