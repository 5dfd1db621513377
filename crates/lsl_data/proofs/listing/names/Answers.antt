use Rattle.std.proofs.Common.{◌≡◌, ◌∙◌, ap, ap₂, sym, subst, ℕ, ◌+◌, ◌<◌, List, [], ◌∷◌, ◌++◌, length, map, take, drop, get_or, arith, IfOk}
use Rattle.std.specs.BTreeMap.{values}
use Rattle.std.specs.Int.{w32}
use Rattle.std.proofs.lemmas.Grind.{take_at_read}
use Rattle.std.proofs.lemmas.Int.{to_z-of_z}
use Rattle.std.proofs.lemmas.Iterator.{YieldsList-from_take}
use Rattle.std.proofs.lemmas.Iterator.Adapters.{YieldsList-from_skip}
use Rattle.std.proofs.lemmas.Iterator.Consumers.{YieldsList-at, YieldsList-from_rest, YieldsList-turn, YieldsList-end}
use Rattle.std.proofs.lemmas.List.{length_push, map-append, take_all}
use Rattle.std.proofs.lemmas.Map.Entries.{length-values_of}
use Rattle.lsl_value.specs.declared.list.Atom.{Atom}
use Rattle.lsl_value.specs.declared.list.Atom.TheVariants.{Str}
use Rattle.lsl_post.specs.declared.parts.Pair.{Pair}
use Rattle.lsl_data.specs.Listing.{first_place, most_listed, name_of}
use Rattle.lsl_data.proofs.listing.names.Goals as goal

more : (all : List Pair) (names new : List Atom) (n m : ℕ) (p : Pair) (name : List ℕ)
    → names ≡ map name_of (take n all)
    → (n < length all) × (p ≡ get_or all n p) → name ≡ p.name → m ≡ n + 1 → new ≡ names ++ Str name ∷ []
    → new ≡ map name_of (take m all)
more all names new n m p name was here is next pushed =
    let read : take (n + 1) all ≡ take n all ++ p ∷ [] =
    (take_at_read all n p here.0).1 ∙ ap (λ q. take n all ++ q ∷ []) (sym here.1) in
    pushed ∙ ap₂ (λ k t. k ++ Str t ∷ []) was is
    ∙ sym (ap (λ k. map name_of (take k all)) next ∙ ap (map name_of) read
    ∙ map-append name_of (take n all) (p ∷ []))

pub loop-pair-preserved : goal.loop-pair-preserved
loop-pair-preserved c =
    let t = YieldsList-turn
    (YieldsList-from_take c.most_listed-most.result
    (YieldsList-at {t = c.skip.result} (cc) (YieldsList-from_skip c.first_place-skipped.result
    (YieldsList-at {t = c.values.result} (cc) (YieldsList-from_rest
    (values c.args.map.now) c.values.ensures.rest)) (cc))) (cc))
    c.loop-pair.yielded _ c.loop-pair.yielded_by _ _ c.in-Some.pair c.in-Some.is c.next.ensures.steps in
    more (take c.most_listed-most.result (drop c.first_place-skipped.result (values c.args.map.now)))
    c.loop-pair.names.items _ _ _ c.in-Some.pair.now _ c.loop-pair.invariant t c.in_ok-copy.ensures
    (length_push c.loop-pair.yielded c.in-Some.pair) c.in_ok-push.ensures.items

pub returns : goal.returns
returns c =
    let t = YieldsList-end
    (YieldsList-from_take c.most_listed-most.result
    (YieldsList-at {t = c.skip.result} (cc) (YieldsList-from_skip c.first_place-skipped.result
    (YieldsList-at {t = c.values.result} (cc) (YieldsList-from_rest
    (values c.args.map.now) c.values.ensures.rest)) (cc))) (cc))
    c.loop-pair.yielded _ c.loop-pair.yielded_by _ _ c.in-None.is c.next.ensures.steps in
    let all = take c.most_listed-most.result (drop c.first_place-skipped.result (values c.args.map.now)) in
    let most =
    c.most_listed-most.ensures
    ∙ ap (λ z. most_listed z c.len.result) (to_z-of_z w32 c.args.count c.ranges.count)
    ∙ ap (most_listed c.args.count) (c.len.ensures.len ∙ sym (length-values_of c.args.map.now.entries)) in
    let skipped =
    c.first_place-skipped.ensures ∙ ap first_place (to_z-of_z w32 c.args.first c.ranges.first) in
    let same = c.loop-pair.invariant
    ∙ ap (map name_of) (take_all (length c.loop-pair.yielded) all (omega (arith, t.1)))
    ∙ ap₂ (λ m n. map name_of (take m (drop n (values c.args.map.now)))) most skipped in
    subst (λ (l : List Atom). IfOk c.from_vec.result (λ listed. listed ≡ l)) same c.from_vec.ensures
