-- On its way restoring puts each value to its place.
use Rattle.std.proofs.Common.{◌≡◌, ℕ, zero, suc, ◌+◌, List, [], ◌∷◌, inl, Option, Some, None, true, refl, sym, ap, ◌∙◌, subst}
use Rattle.std.specs.Prelude.{slice_get, slice_set, option_map}
use Rattle.std.proofs.lemmas.Option.{slice_get-map}
use Rattle.lsl_value.specs.Values.{kind_of}
use Rattle.lsl_value.specs.declared.tagged.Value.{Value}
use Rattle.lsl_code.specs.declared.frames.Frame.{Frame}
use Rattle.lsl_code.specs.declared.functions.Point.{Point}
use Rattle.lsl_code.specs.Bodies.{Body}
use Rattle.lsl_code.specs.Kinds.{kinds_of}
use Rattle.lsl_code.specs.Machine.{MachineCall}
use Rattle.lsl_code.specs.Modes.{at_place}
use Rattle.lsl_code.specs.Restoring.{Moves, takes, with_slot, where_slot}
use Rattle.lsl_code.specs.BackWays.{Put, ToSlot, ToTop, BackWay, putting, backs, put_back, lands_well}
use Rattle.lsl_code.specs.SaveWays.{with_one, waiting_kinds}
use Rattle.lsl_weave.proofs.BackKept.{OnBackWay, BackGoesOn}

puts_behind : (m : Put) (o : Option BackWay) (way : BackWay) → option_map (putting m) o ≡ Some way
    → (rest : BackWay) × (o ≡ Some rest) × (putting m rest ≡ way)
puts_behind m None way e = absurd cc
puts_behind m (Some rest) way e = let is : putting m rest ≡ way = cc in (rest, refl, is)

map_set : (slots : List Value) (i : ℕ) (v : Value)
    → kinds_of (slice_set slots i v) ≡ slice_set (kinds_of slots) i (kind_of v)
map_set [] i v = refl
map_set (x ∷ slots) zero v = refl
map_set (x ∷ slots) (suc i) v = ap (λ l. kind_of x ∷ l) (map_set slots i v)

module _ (bodies : List Body) (w : Body) (n : ℕ) (left : List Frame) (callee : Option ℕ) where
  pub puts_slot : (c : MachineCall) (point : ℕ) (pt : Point) (hand : List Value) (i : ℕ)
      (st : OnBackWay w (suc n) true point pt callee c hand)
      → option_map (putting (ToSlot i)) (backs w.code n point true (c.place + 1)) ≡ Some st.way
      → (vs : List Value) → hand ≡ vs → (o : Option Value) → slice_get c.slots i ≡ o
      → BackGoesOn bodies w n left callee c.function hand left
      (takes vs (λ v rest. where_slot o (Moves (with_slot c i v) point rest left)))
  puts_slot c point pt hand i st e vs is o slot =
      let m = puts_behind (ToSlot i) (backs w.code n point true (c.place + 1)) st.way e in
      let k0 = ap (λ x. put_back x.puts (kinds_of hand) (kinds_of c.slots) (kinds_of c.operands)) m.2
      ∙ st.kinds_are in
      let k1 = ap (λ x. put_back (ToSlot i ∷ m.0.puts) (kinds_of x) (kinds_of c.slots) (kinds_of c.operands))
      (sym is) ∙ k0 in
      by_values vs m k1
    where
      by_slot : (v : Value) (rest : List Value)
          (m : (r : BackWay) × (backs w.code n point true (c.place + 1) ≡ Some r)
          × (putting (ToSlot i) r ≡ st.way)) (o : Option Value)
          → with_one (option_map kind_of o)
          (λ _. put_back m.0.puts (kinds_of rest) (slice_set (kinds_of c.slots) i (kind_of v))
          (kinds_of c.operands)) ≡ Some (w.slots, waiting_kinds w.slots pt)
          → BackGoesOn bodies w n left callee c.function hand left
          (where_slot o (Moves (with_slot c i v) point rest left))
      by_slot v rest m None k = absurd cc
      by_slot v rest m (Some u) k =
          let lands = subst (λ x. lands_well w.code point pt.calls x.callee x.lands ≡ true) (sym m.2) st.lands
          in
          let kinds = ap (λ s. put_back m.0.puts (kinds_of rest) s (kinds_of c.operands))
          (map_set c.slots i v) ∙ k in (
            refl,
            inl (
              pt,
              refl,
              record {
                mapped = st.mapped;
                callee_is = st.callee_is;
                way = m.0;
                is_way =
                    m.1;
                lands = lands;
                kinds_are = kinds;
              },
            ),
          )

      by_values : (vs : List Value) (m : (r : BackWay) × (backs w.code n point true (c.place + 1) ≡ Some r)
          × (putting (ToSlot i) r ≡ st.way))
          → put_back (ToSlot i ∷ m.0.puts) (kinds_of vs) (kinds_of c.slots) (kinds_of c.operands)
          ≡ Some (w.slots, waiting_kinds w.slots pt)
          → BackGoesOn bodies w n left callee c.function hand left
          (takes vs (λ v rest. where_slot o (Moves (with_slot c i v) point rest left)))
      by_values [] m k = absurd cc
      by_values (v ∷ rest) m k =
          let there : slice_get (kinds_of c.slots) i ≡ option_map kind_of o =
          slice_get-map kind_of c.slots i ∙ ap (option_map kind_of) slot in
          by_slot v rest m o (ap (λ q. with_one q
          (λ _. put_back m.0.puts (kinds_of rest) (slice_set (kinds_of c.slots) i (kind_of v))
          (kinds_of c.operands))) (sym there) ∙ k)

  pub puts_top : (c : MachineCall) (point : ℕ) (pt : Point) (hand : List Value)
      (st : OnBackWay w (suc n) true point pt callee c hand)
      → option_map (putting ToTop) (backs w.code n point true (c.place + 1)) ≡ Some st.way → (vs : List Value)
      → hand ≡ vs → BackGoesOn bodies w n left callee c.function hand left
      (takes vs (λ v rest. Moves (at_place c (c.place + 1) (v ∷ c.operands)) point rest left))
  puts_top c point pt hand st e vs is =
      let m = puts_behind ToTop (backs w.code n point true (c.place + 1)) st.way e in
      let k0 = ap (λ x. put_back x.puts (kinds_of hand) (kinds_of c.slots) (kinds_of c.operands)) m.2
      ∙ st.kinds_are in
      let k1 = ap (λ x. put_back (ToTop ∷ m.0.puts) (kinds_of x) (kinds_of c.slots) (kinds_of c.operands))
      (sym is) ∙ k0 in
      by_values vs m k1
    where
      by_values : (vs : List Value) (m : (r : BackWay) × (backs w.code n point true (c.place + 1) ≡ Some r)
          × (putting ToTop r ≡ st.way)) → put_back (ToTop ∷ m.0.puts) (kinds_of vs) (kinds_of c.slots)
          (kinds_of c.operands) ≡ Some (w.slots, waiting_kinds w.slots pt)
          → BackGoesOn bodies w n left callee c.function hand left
          (takes vs (λ v rest. Moves (at_place c (c.place + 1) (v ∷ c.operands)) point rest left))
      by_values [] m k = absurd cc
      by_values (v ∷ rest) m k =
          let lands = subst (λ x. lands_well w.code point pt.calls x.callee x.lands ≡ true) (sym m.2)
          st.lands in (
            refl,
            inl (
              pt,
              refl,
              record {
                mapped = st.mapped;
                callee_is = st.callee_is;
                way = m.0;
                is_way =
                    m.1;
                lands = lands;
                kinds_are = k;
              },
            ),
          )
