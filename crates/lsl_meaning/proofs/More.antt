-- Evaluations with more ticks and more answers, and which results may change by them.
use Rattle.std.proofs.Common.{◌≡◌, ℕ, zero, suc, ◌+◌, ◌⊎◌, inl, inr, ⊎_elim, List, [], ◌∷◌, ◌++◌, Bool, true, false, cond, Option, Some, None, refl, sym, ap, subst, arith}
use Rattle.lsl_value.specs.Values.{charge_of}
use Rattle.lsl_value.specs.declared.names.BuiltinId.{BuiltinId}
use Rattle.lsl_value.specs.declared.tagged.Value.{Value}
use Rattle.lsl_running.specs.declared.ends.Fault.TheVariants.{StackHeap}
use Rattle.lsl_running.specs.declared.host.Reply.{Reply}
use Rattle.lsl_running.specs.Charging.{used, is_within}
use Rattle.lsl_running.specs.Results.{ActiveCall, Whole, Asks, Cut, Fails}
use Rattle.lsl_meaning.specs.State.{State, Site, active_call, Evaluation, Gives, Stops, bind, give, give_result, tick}

-- this many more ticks and these more answers: an evaluation that ends this way may end otherwise with them
pub record Surplus : Type 1 where
  pub ticks : ℕ
  pub answers : List Reply
  pub IsLoose : Whole → Type 0
  pub cut : (calls : List ActiveCall) → IsLoose (Cut calls) ⊎ (ticks ≡ 0)
  pub asks : (id : BuiltinId) (arguments : List Value) → IsLoose (Asks id arguments) ⊎ (answers ≡ [])

module _ (x : Surplus) where
  abbrev pub more : State → State
  more s = record s { ticks = s.ticks + x.ticks; answers = s.answers ++ x.answers }

  -- the second result is the first one, as far as that doesn't change
  abbrev pub Extends : {A : Type 0} → Evaluation A → Evaluation A → Type 0
  Extends (Gives a s) r = r ≡ Gives a (more s)
  Extends (Stops w) r = x.IsLoose w ⊎ (r ≡ Stops w)

  pub bind_more : {A B : Type 0} (r r' : Evaluation A) (go go' : A → State → Evaluation B)
      → Extends r r' → ((a : A) (s : State) → Extends (go a s) (go' a (more s))) → Extends (bind r go) (bind r' go')
  bind_more (Gives a s) r' go go' e next = subst (λ q. Extends (go a s) (bind q go')) (sym e) (next a s)
  bind_more (Stops w) r' go go' e next = ⊎_elim (λ l. inl l) (λ q. inr (ap (λ r. bind r go') q)) e

  pub cond_more : {A : Type 0} (b : Bool) (r r' q q' : Evaluation A)
      → Extends r r' → Extends q q' → Extends (cond b r q) (cond b r' q')
  cond_more true r r' q q' e f = e
  cond_more false r r' q q' e f = f

  pub give_more : (v : Value) (site : Site) (s : State) → Extends (give v site s) (give v site (more s))
  give_more v site s =
      cond_more (is_within s.kept (used (site.held + charge_of v) s.slots s.kept))
      (Gives v s) (Gives v (more s)) (Stops (Fails StackHeap)) (Stops (Fails StackHeap)) refl (inr refl)

  pub give_result_more : (result : Option Value) (site : Site) (s : State)
      → Extends (give_result result site s) (give_result result site (more s))
  give_result_more None site s = refl
  give_result_more (Some v) site s =
      bind_more (give v site s) (give v site (more s)) _ _ (give_more v site s) (λ w t. refl)

  pub tick_more : {A : Type 0} (ticks line : ℕ) (site : Site) (s : State) (go go' : State → Evaluation A)
      → ((t : State) → Extends (go t) (go' (more t)))
      → Extends (tick ticks line site s go) (tick (ticks + x.ticks) line site (more s) go')
  tick_more zero line site s go go' next =
      ⊎_elim (λ l. inl l)
      (λ e. let none : 0 + x.ticks ≡ 0 = omega arith in inr (ap (λ n. tick n line site (more s) go') none))
      (x.cut (active_call line site s.slots ∷ site.callers))
  tick_more (suc ticks) line site s go go' next =
      let e : suc (ticks + x.ticks) ≡ suc ticks + x.ticks = omega arith in
      let passed : State = record s { ticks = ticks } in
      subst (λ n. Extends (go passed) (tick n line site (more s) go')) e (next passed)
