-- In woven code restoring has a good way to each point.
use Rattle.std.proofs.Common.{◌≡◌, ℕ, zero, suc, ◌+◌, ◌-◌, ◌<◌, ◌≤◌, List, [], ◌∷◌, ◌++◌, length, drop, Option, Some, None, true, false, refl, sym, ap, ◌∙◌, arith, append_assoc, length-append, length-drop, ⊎_elim}
use Rattle.std.specs.Prelude.{slice_get, slice_set, option_map, nat_eq}
use mathlib.Core.List.{reverse_aux}
use Rattle.std.proofs.lemmas.Bool.{cases_lt}
use Rattle.std.proofs.lemmas.Option.{slice_get_within}
use Rattle.lsl_value.specs.declared.tagged.Kind.{Kind}
use Rattle.lsl_code.specs.declared.functions.Point.{Point}
use Rattle.lsl_code.specs.declared.instructions.Instr.{Instr}
use Rattle.lsl_code.specs.declared.instructions.Instr.TheVariants.{Tick, Call}
use Rattle.lsl_code.specs.Bodies.{Body}
use Rattle.lsl_code.specs.Fits.{all_places}
use Rattle.lsl_code.specs.Modes.{landing}
use Rattle.lsl_code.specs.Standing.{point_instr}
use Rattle.lsl_code.proofs.Tested.{both, eq_self, sames_self, differs, differs', all_if}
use Rattle.lsl_code.specs.BackWays.{Put, ToSlot, ToTop, putting, backs_at, backs, put_back, put_count, is_put_once, are_put, is_tick_of, is_call_of, lands_well, is_back_way, restores_point}
use Rattle.lsl_weave.specs.Layout.{shift, waiting, backs_from, back_place, back_slots, back_tops, back_end, place_of, woven_code, woven_of}
use Rattle.lsl_code.specs.SaveWays.{with_one, waiting_kinds}
use Rattle.lsl_weave.proofs.MadeSaves.{onward_on, one_more, no_more, drop_take}
use Rattle.lsl_weave.proofs.PlainPoints.{HasPoints}
use Rattle.lsl_weave.proofs.Placing.{HasAt, laid}
use Rattle.lsl_weave.proofs.Restored.{get_seam, set_seam}

-- what a block puts back, one after another
abbrev tops_puts : ℕ → List Put
tops_puts zero = []
tops_puts (suc m) = ToTop ∷ tops_puts m

abbrev block_puts : ℕ → ℕ → ℕ → List Put
block_puts i zero m = tops_puts m
block_puts i (suc n) m = ToSlot i ∷ block_puts (suc i) n m

abbrev lands_at : Body → ℕ → Option ℕ → ℕ
lands_at b p None = shift b (place_of p b.code)
lands_at b p (Some g) = shift b (place_of p b.code) + 1

end_way : (b : Body) (code : List Instr) (p q k more : ℕ) (callee : Option ℕ)
    → HasAt code k (back_end b p callee) → backs code (suc more) q true k
    ≡ Some (record { puts = []; callee = callee; lands = lands_at b p callee })
end_way b code p q k more None h = ap (backs_at code (backs code more q) true q k) h.0
    ∙ ap (λ o. Some (record { puts = []; callee = None; lands = landing o (k + 1) })) h.1.0
end_way b code p q k more (Some g) h = ap (backs_at code (backs code more q) true q k) h.0
    ∙ ap (λ o. Some (record { puts = []; callee = Some g; lands = landing o (k + 1) })) h.1.0

tops_way : (b : Body) (code : List Instr) (m p q k more : ℕ) (callee : Option ℕ)
    → HasAt code k (back_tops m (back_end b p callee))
    → backs code (suc (m + more)) q true k
    ≡ Some (record { puts = tops_puts m; callee = callee; lands = lands_at b p callee })
tops_way b code zero p q k more callee h =
    let z : suc (zero + more) ≡ suc more = omega arith in
    ap (λ f. backs code f q true k) z ∙ end_way b code p q k more callee h
tops_way b code (suc m) p q k more callee h =
    let z : suc m + more ≡ suc (m + more) = omega arith in
    ap (backs_at code (backs code (suc m + more) q) true q k) h.0
    ∙ ap (λ f. option_map (putting ToTop) (backs code f q true (k + 1))) z
    ∙ ap (option_map (putting ToTop)) (tops_way b code m p q (k + 1) more callee h.1)

block_way : (b : Body) (code : List Instr) (i n m p q k more : ℕ) (callee : Option ℕ)
    → HasAt code k (back_slots i n (back_tops m (back_end b p callee)))
    → backs code (suc (n + (m + more))) q true k
    ≡ Some (record { puts = block_puts i n m; callee = callee; lands = lands_at b p callee })
block_way b code i zero m p q k more callee h =
    let z : suc (zero + (m + more)) ≡ suc (m + more) = omega arith in
    ap (λ f. backs code f q true k) z ∙ tops_way b code m p q k more callee h
block_way b code i (suc n) m p q k more callee h =
    let z : suc n + (m + more) ≡ suc (n + (m + more)) = omega arith in
    ap (backs_at code (backs code (suc n + (m + more)) q) true q k) h.0
    ∙ ap (λ f. option_map (putting (ToSlot i)) (backs code f q true (k + 1))) z
    ∙ ap (option_map (putting (ToSlot i))) (block_way b code (suc i) n m p q (k + 1) more callee h.1)

tops_put : (vs slots ops : List Kind) → put_back (tops_puts (length vs)) vs slots ops
    ≡ Some (slots, reverse_aux vs ops)
tops_put [] slots ops = refl
tops_put (v ∷ vs) slots ops = tops_put vs slots (v ∷ ops)

block_put : (vs ds done more : List Kind) (i m : ℕ) → i ≡ length done → length ds ≡ length vs
    → put_back (block_puts i (length vs) m) (vs ++ more) (done ++ ds) []
    ≡ put_back (tops_puts m) more (done ++ vs) []
block_put [] [] done more i m e l = refl
block_put [] (d ∷ ds) done more i m e l = absurd (omega arith)
block_put (v ∷ vs) [] done more i m e l = absurd (omega arith)
block_put (v ∷ vs) (d ∷ ds) done more i m e l =
    let next : suc i ≡ length (done ++ v ∷ []) = omega (arith, length-append done (v ∷ [])) in
    let has : slice_get (done ++ d ∷ ds) i ≡ Some d =
    ap (λ n. slice_get (done ++ d ∷ ds) n) e ∙ get_seam done d ds in
    let put : slice_set (done ++ d ∷ ds) i v ≡ (done ++ v ∷ []) ++ ds =
    ap (λ n. slice_set (done ++ d ∷ ds) n v) e ∙ set_seam done d v ds
    ∙ sym (append_assoc done (v ∷ []) ds) in
    ap (λ o. with_one o (λ _. put_back (block_puts (suc i) (length vs) m) (vs ++ more)
    (slice_set (done ++ d ∷ ds) i v) [])) has
    ∙ ap (λ s. put_back (block_puts (suc i) (length vs) m) (vs ++ more) s []) put
    ∙ block_put vs ds (done ++ v ∷ []) more (suc i) m next (omega arith)
    ∙ ap (λ s. put_back (tops_puts m) more s []) (append_assoc done (v ∷ []) vs)

put_tops_count : (j m : ℕ) → put_count j (tops_puts m) ≡ 0
put_tops_count j zero = refl
put_tops_count j (suc m) = put_tops_count j m

put_none : (j i n m : ℕ) → j < i → put_count j (block_puts i n m) ≡ 0
put_none j i zero m lt = put_tops_count j m
put_none j i (suc n) m lt = no_more (nat_eq j i) _ (differs j i lt) ∙ put_none j (suc i) n m (omega arith)

put_one : (j i n m : ℕ) → i ≤ j → j < i + n → put_count j (block_puts i n m) ≡ 1
put_one j i zero m le lt = absurd (omega arith)
put_one j i (suc n) m le lt =
    ⊎_elim
    (λ less. no_more (nat_eq j i) _ (differs' i j (omega arith)) ∙ put_one j (suc i) n m less (omega arith))
    (λ most. let e : j ≡ i = omega arith in
    one_more (nat_eq j i) _ (ap (nat_eq j) (sym e) ∙ eq_self j)
    ∙ ap suc (put_none j (suc i) n m (omega arith)))
    (cases_lt i j)

ends_long : (b : Body) (code : List Instr) (s p : ℕ) (callee : Option ℕ) → HasAt code s (back_end b p callee)
    → s + 2 ≤ length code
ends_long b code s p None h = omega (arith, slice_get_within code (s + 1) _ h.1.0)
ends_long b code s p (Some g) h = omega (arith, slice_get_within code (s + 1) _ h.1.0)

tops_long : (b : Body) (code : List Instr) (s m p : ℕ) (callee : Option ℕ)
    → HasAt code s (back_tops m (back_end b p callee)) → s + m + 2 ≤ length code
tops_long b code s zero p callee h = omega (arith, ends_long b code s p callee h)
tops_long b code s (suc m) p callee h = omega (arith, tops_long b code (s + 1) m p callee h.1)

slots_long : (b : Body) (code : List Instr) (s i n m p : ℕ) (callee : Option ℕ)
    → HasAt code s (back_slots i n (back_tops m (back_end b p callee))) → s + n + m + 2 ≤ length code
slots_long b code s i zero m p callee h = omega (arith, tops_long b code s m p callee h)
slots_long b code s i (suc n) m p callee h = omega (arith, slots_long b code (s + 1) (suc i) n m p callee h.1)

module _ (b : Body) (has : HasPoints b) (p : ℕ) (pt : Point) (mapped : slice_get b.points p ≡ Some pt) where
  lands_there : (callee : Option ℕ) → pt.calls ≡ callee
      → lands_well (woven_code b) p callee callee (lands_at b p callee) ≡ true
  lands_there None e =
      let here = has.stands p pt mapped ∙ ap (λ o. Some (point_instr o p)) e in
      ap (is_tick_of p) ((laid b).mains (place_of p b.code) (Tick p) here).0 ∙ eq_self p
  lands_there (Some g) e =
      let here = has.stands p pt mapped ∙ ap (λ o. Some (point_instr o p)) e in
      let k = shift b (place_of p b.code) in
      let z : k + 1 ≡ suc k = omega arith in
      let call = ap (is_call_of g p) ((laid b).mains (place_of p b.code) (Call g p) here).0
      ∙ both _ _ (eq_self g) (eq_self p) in
      ap (lands_well (woven_code b) p (Some g) (Some g)) z ∙ both _ _ (eq_self g) call

  pub point_restored : restores_point (woven_of b) p pt ≡ true
  point_restored =
      let code = woven_code b in
      let m = waiting b pt in
      let n = length b.slots in
      let l = laid b in
      let to = back_place b p in
      let block = l.backs p pt mapped in
      let r = backs_from b in
      let within = slice_get_within b.points p pt mapped in
      let up : 0 < r = omega arith in
      let ahead : r + 2 + p < to = omega (arith, within) in
      let more = length code - (n + m + 5) in
      let long = slots_long b code to 0 n m p pt.calls block in
      let enough : n + m + 5 ≤ length code = omega (arith, long, ahead) in
      let rest = suc (n + (m + more)) in
      let fuel : length code ≡ suc (suc (suc (suc rest))) = omega (arith, enough) in
      let z : r + 1 + 1 + p ≡ r + 2 + p = omega arith in
      let s0 = ap (backs_at code (backs code (suc (suc (suc rest))) p) false p 0) l.head
      ∙ onward_on 0 r (backs code (suc (suc (suc rest))) p false r) up in
      let s1 = ap (backs_at code (backs code (suc (suc rest)) p) false p r) l.unpack in
      let s2 = ap (backs_at code (backs code (suc rest) p) true p (r + 1)) l.branch in
      let s3 = ap (backs code (suc rest) p true) z
      ∙ ap (backs_at code (backs code rest p) true p (r + 2 + p)) (l.tables p pt mapped)
      ∙ onward_on (r + 2 + p) to (backs code rest p true to) ahead in
      let way : backs code (length code) p false 0
      ≡ Some (record { puts = block_puts 0 n m; callee = pt.calls; lands = lands_at b p pt.calls }) =
      ap (λ f. backs code f p false 0) fuel ∙ s0 ∙ s1 ∙ s2 ∙ s3
      ∙ block_way b code 0 n m p p to more pt.calls block in
      let rest_kinds = drop n pt.kinds in
      let m_is : m ≡ length rest_kinds = sym (length-drop n pt.kinds) in
      let split = drop_take n pt.kinds b.slots (has.slots_first p pt mapped) in
      let put : put_back (block_puts 0 n m) pt.kinds b.slots [] ≡ Some (b.slots, waiting_kinds b.slots pt) =
      ap (λ v. put_back (block_puts 0 n m) v b.slots []) (sym split)
      ∙ block_put b.slots b.slots [] rest_kinds 0 m refl refl
      ∙ ap (λ x. put_back (tops_puts x) rest_kinds b.slots []) m_is ∙ tops_put rest_kinds b.slots [] in
      let is : are_put (put_back (block_puts 0 n m) pt.kinds b.slots []) b.slots (waiting_kinds b.slots pt)
      ≡ true = ap (λ o. are_put o b.slots (waiting_kinds b.slots pt)) put
      ∙ both _ _ (sames_self b.slots) (sames_self (waiting_kinds b.slots pt)) in
      let counts = all_if (is_put_once (block_puts 0 n m)) b.slots
      (λ j x e. ap (λ c. nat_eq c 1) (put_one j 0 n m (omega arith)
      (omega (arith, slice_get_within b.slots j x e)))) in
      ap (is_back_way (woven_of b) p pt) way ∙ both _ _ (both _ _ (lands_there pt.calls refl) counts) is

pub all_restored : (b : Body) → HasPoints b → all_places (restores_point (woven_of b)) 0 b.points ≡ true
all_restored b has = all_if (restores_point (woven_of b)) b.points (λ p pt e. point_restored b has p pt e)
