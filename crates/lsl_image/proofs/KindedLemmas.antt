-- Values of the kinds that are due, read one after another.
use Rattle.std.proofs.Common.{◌≡◌, ◌∙◌, refl, subst, sym, ap, inl, inr, ℕ, ◌+◌, ◌<◌, ◌≤◌, ℤ, List, [], ◌∷◌, ◌++◌, length, drop, get_or, Bool, true, false, Option, Some, None, IfSome, Result, Err, add-one, append_assoc, drop-cons}
use Rattle.std.proofs.Math.Bool.{Bool-set}
use Rattle.std.proofs.lemmas.Bool.{false≢true}
use Rattle.std.proofs.lemmas.List.{append-nil, drop_all}
use Rattle.std.proofs.lemmas.Result.{err_from_is_err_and}
use Rattle.std.specs.Result.{IsErrAnd}
use Rattle.lsl_text.specs.declared.Refusal.{Refusal}
use Rattle.lsl_text.specs.declared.Refusal.TheVariants.{Fault, NoMemory}
use Rattle.lsl_value.specs.Values.{kind_of}
use Rattle.lsl_value.specs.declared.tagged.Kind.{Kind}
use Rattle.lsl_value.specs.declared.tagged.Kind.TheVariants as kind
use Rattle.lsl_value.specs.declared.tagged.Value.{Value}
use Rattle.lsl_value.specs.declared.tagged.Value.TheVariants.{Int}
use Rattle.lsl_bytes.specs.Fields.{FitsI32, int_bytes, value_bytes}
use Rattle.lsl_bytes.specs.Places.{Takes}
use Rattle.lsl_code.specs.Kinds.{kinds_of, same_kind, same_kinds}
use Rattle.lsl_image.specs.declared.faults.ImageFault.{ImageFault}
use Rattle.lsl_image.specs.declared.faults.ImageFault.TheVariants.{Body}
use Rattle.lsl_image.specs.Layout.{Kinded, Layout, Ends, ValueForm, ◌>>=◌, field, field_that, here, kinded, kinded_values, no_values, one_more, tested, value_of, values_in, values_of}
use Rattle.lsl_image.specs.Reading.{Faults, Gives, Reads, Stands}
use Rattle.lsl_image.specs.Leading.{LeadsBehind}
use Rattle.lsl_image.proofs.ReadingLemmas.{faults-first, faults-split, gives-split, gives-then}

-- what a test lets through
pub record Passed {A : Type 0} (good : Bool) (a v : A) (p q : ℕ) : Type 0 where
  pub holds : good ≡ true
  pub same : v ≡ a
  pub place : q ≡ p

pub tested-gives : {A : Type 0} (bytes : List ℕ) (good : Bool) (place : ℕ) (a v : A) (p q : ℕ)
    → Gives bytes (tested good place a) p v q → Passed good a v p q
tested-gives bytes true place a v p q g = record { holds = refl; same = g.0; place = g.1 }
tested-gives bytes false place a v p q g = absurd g

pub tested-faults : {A : Type 0} (bytes : List ℕ) (good : Bool) (place : ℕ) (a : A) (p : ℕ) (fault : ImageFault)
    → Faults bytes (tested good place a) p fault → (good ≡ false) × (fault ≡ Body place)
tested-faults bytes true place a p fault g = absurd g
tested-faults bytes false place a p fault g = (refl, g)

pub value-given : (bytes : List ℕ) (due : Kind) (p : ℕ) (v : Value) (q : ℕ) → Gives bytes (value_of due) p v q
    → Stands bytes p ValueForm v q × (same_kind (kind_of v) due ≡ true)
unfolding field_that
value-given bytes due p v q g =
    let t = tested-gives bytes (same_kind (kind_of g.0) due) p g.0 v g.1 q g.3 in
    let at : Stands bytes p ValueForm g.0 q = subst (λ (n : ℕ). Stands bytes p ValueForm g.0 n) (sym t.place) g.2 in (
      subst (λ (w : Value). Stands bytes p ValueForm w q) (sym t.same) at,
      subst (λ (w : Value). same_kind (kind_of w) due ≡ true) (sym t.same) t.holds,
    )

-- an integer that was taken where one is due
pub int-given : (bytes : List ℕ) (due : Kind) (p : ℕ) (answer : Option (ℤ × ℕ)) → due ≡ kind.Int
    → Takes int_bytes FitsI32 bytes p answer
    → IfSome answer (λ read. Gives bytes (value_of due) p (Int read.0) read.1)
unfolding field_that here field ◌>>=◌ value_bytes
int-given bytes due p (Some read) is takes =
    subst (λ (k : Kind). Gives bytes (value_of k) p (Int read.0) read.1) (sym is)
    (Int read.0, read.1, takes.found, (refl, refl))
int-given bytes due p None is takes = tt

module _ (bytes : List ℕ) (due : Kind) (kinds : List Kind) (place : ℕ) (value : Value)
    (others : Layout (Kinded kinds)) where
  kinded-gives : (same : Bool) (e : same_kind (kind_of value) due ≡ same)
      (fits : same_kind (kind_of value) due ≡ true) (p : ℕ) (k : Kinded kinds) (q : ℕ)
      → Gives bytes others p k q → Gives bytes (kinded due kinds place value same e others) p
      (one_more due kinds value fits k) q
  kinded-gives true e fits p k q g = gives-then bytes others
      (λ values. Ends (one_more due kinds value e values)) p k q (one_more due kinds value fits k) q g (
        ap (λ (t : same_kind (kind_of value) due ≡ true). one_more due kinds value t k)
            (Bool-set (same_kind (kind_of value) due) true fits e),
        refl,
      )
  kinded-gives false e fits p k q g = absurd (false≢true (sym e ∙ fits))

  kinded-faults : (same : Bool) (e : same_kind (kind_of value) due ≡ same)
      (fits : same_kind (kind_of value) due ≡ true) (p : ℕ) (fault : ImageFault) → Faults bytes others p fault
      → Faults bytes (kinded due kinds place value same e others) p fault
  kinded-faults true e fits p fault g = faults-first bytes others
      (λ values. Ends (one_more due kinds value e values)) p fault g
  kinded-faults false e fits p fault g = absurd (false≢true (sym e ∙ fits))

  kinded-refused : (same : Bool) (e : same_kind (kind_of value) due ≡ same)
      (differs : same_kind (kind_of value) due ≡ false) (p : ℕ)
      → Faults bytes (kinded due kinds place value same e others) p (Body place)
  kinded-refused true e differs p = absurd (false≢true (sym differs ∙ e))
  kinded-refused false e differs p = refl

pub values-start : (bytes : List ℕ) (kinds : List Kind) (p : ℕ) (before : List Value) → before ≡ []
    → LeadsBehind bytes kinds p before (values_of kinds) p
unfolding values_of
values-start bytes kinds p before none = subst
    (λ (vs : List Value). LeadsBehind bytes kinds p vs (values_of kinds) p) (sym none) (record {
      gives = λ k q g. gives-then bytes (kinded_values kinds) (values_in kinds) p k q k.values q g (refl, refl);
      faults = λ fault g. faults-first bytes (kinded_values kinds) (values_in kinds) p fault g;
    })

values-more : (bytes : List ℕ) (due : Kind) (kinds : List Kind) (p : ℕ) (before : List Value)
    (whole : Layout (List Value)) (start : ℕ) (v : Value) (q : ℕ)
    → LeadsBehind bytes (due ∷ kinds) p before whole start → Gives bytes (value_of due) p v q
    → LeadsBehind bytes kinds q (before ++ v ∷ []) whole start
unfolding kinded_values here field ◌>>=◌
values-more bytes due kinds p before whole start v q leads given =
    let found = value-given bytes due p v q given in
    record {
      gives = λ k r g.
          let all = leads.gives (one_more due kinds v found.1 k) r (
            v,
            q,
            found.0,
            kinded-gives bytes due kinds p v (kinded_values kinds) (same_kind (kind_of v) due)
                refl found.1 q k r g,
          ) in
          subst (λ (vs : List Value). Gives bytes whole start vs r) (sym (append_assoc before (v ∷ []) k.values)) all;
      faults = λ fault g. leads.faults fault
          (inr (
            v,
            q,
            found.0,
            kinded-faults bytes due kinds p v (kinded_values kinds)
                (same_kind (kind_of v) due) refl found.1 q fault g,
          ));
    }

value-faults : (bytes : List ℕ) (due : Kind) (kinds : List Kind) (p : ℕ) (fault : ImageFault)
    → Faults bytes (value_of due) p fault → Faults bytes (kinded_values (due ∷ kinds)) p fault
unfolding kinded_values field_that here field ◌>>=◌
value-faults bytes due kinds p fault (inl none) = inl none
value-faults bytes due kinds p fault (inr g) =
    let t = tested-faults bytes (same_kind (kind_of g.0) due) p g.0 g.1 fault g.3 in
    let refused = kinded-refused bytes due kinds p g.0 (kinded_values kinds) (same_kind (kind_of g.0) due) refl
    t.0 g.1 in
    inr (
      g.0,
      g.1,
      g.2,
      subst (λ (e : ImageFault).
          Faults bytes (kinded due kinds p g.0 (same_kind (kind_of g.0) due) refl (kinded_values kinds)) g.1 e)
          (sym t.1) refused,
    )

value-err : (bytes : List ℕ) (due : Kind) (kinds : List Kind) (p : ℕ) (before : List Value)
    (whole : Layout (List Value)) (start : ℕ) (e : Refusal ImageFault)
    → LeadsBehind bytes (due ∷ kinds) p before whole start → Reads bytes (value_of due) p (Err e)
    → Reads bytes whole start (Err e)
value-err bytes due kinds p before whole start (Fault fault) leads g =
    leads.faults fault (value-faults bytes due kinds p fault g)
value-err bytes due kinds p before whole start NoMemory leads g = tt

values-stop : (bytes : List ℕ) (due : Kind) (kinds : List Kind) (p : ℕ) (before : List Value)
    (whole : Layout (List Value)) (start : ℕ) (e : Refusal ImageFault)
    (r : Result (List Value × ℕ) (Refusal ImageFault)) → LeadsBehind bytes (due ∷ kinds) p before whole start
    → Reads bytes (value_of due) p (Err e) → IsErrAnd r (λ y. y ≡ e) → Reads bytes whole start r
values-stop bytes due kinds p before whole start e r leads g exit =
    let same = err_from_is_err_and r exit in
    rw (same.1, same.2) (value-err bytes due kinds p before whole start e leads g)

values-all : (bytes : List ℕ) (p : ℕ) (before : List Value) (whole : Layout (List Value)) (start : ℕ)
    → LeadsBehind bytes [] p before whole start → Gives bytes whole start before p
unfolding kinded_values
values-all bytes p before whole start leads =
    subst (λ (vs : List Value). Gives bytes whole start vs p) (append-nil before) (leads.gives no_values p (refl, refl))

first-kind : (kinds : List Kind) (i : ℕ) → i < length kinds
    → drop i kinds ≡ get_or kinds i kind.Int ∷ drop (i + 1) kinds
first-kind kinds i within = rw (add-one, drop-cons kinds i kind.Int)

module _ (bytes : List ℕ) (kinds : List Kind) (i p : ℕ) (before : List Value) (start : ℕ) where
  behind-first : i < length kinds → LeadsBehind bytes (drop i kinds) p before (values_of kinds) start
      → LeadsBehind bytes (get_or kinds i kind.Int ∷ drop (i + 1) kinds) p before (values_of kinds) start
  behind-first within leads = subst (λ (ks : List Kind). LeadsBehind bytes ks p before (values_of kinds) start)
      (first-kind kinds i within) leads

  -- one more value was read
  pub values-next : (v : Value) (q : ℕ) (after : List Value) → i < length kinds → after ≡ before ++ v ∷ []
      → LeadsBehind bytes (drop i kinds) p before (values_of kinds) start
      → Gives bytes (value_of (get_or kinds i kind.Int)) p v q
      → LeadsBehind bytes (drop (i + 1) kinds) q after (values_of kinds) start
  values-next v q after within same leads given =
      subst (λ (vs : List Value). LeadsBehind bytes (drop (i + 1) kinds) q vs (values_of kinds) start)
      (sym same)
      (values-more bytes (get_or kinds i kind.Int) (drop (i + 1) kinds) p before (values_of kinds) start v q
      (behind-first within leads) given)

  -- one more couldn't be read
  pub values-exit : (e : Refusal ImageFault) (r : Result (List Value × ℕ) (Refusal ImageFault))
      → i < length kinds → LeadsBehind bytes (drop i kinds) p before (values_of kinds) start
      → Reads bytes (value_of (get_or kinds i kind.Int)) p (Err e) → IsErrAnd r (λ y. y ≡ e)
      → Reads bytes (values_of kinds) start r
  values-exit e r within leads g exit = values-stop bytes (get_or kinds i kind.Int) (drop (i + 1) kinds) p
      before (values_of kinds) start e r (behind-first within leads) g exit

  -- all of them were read
  pub values-end : length kinds ≤ i → LeadsBehind bytes (drop i kinds) p before (values_of kinds) start
      → Gives bytes (values_of kinds) start before p
  values-end all leads = values-all bytes p before (values_of kinds) start
      (subst (λ (ks : List Kind). LeadsBehind bytes ks p before (values_of kinds) start) (drop_all i kinds all)
      leads)

-- values that were read have their kinds
pub record HaveKinds (bytes : List ℕ) (kinds : List Kind) (p : ℕ) (vs : List Value) (q : ℕ) : Type 0 where
  pub those : Kinded kinds
  pub given : Gives bytes (kinded_values kinds) p those q
  pub same : vs ≡ those.values

pub values-kinds : (bytes : List ℕ) (kinds : List Kind) (p : ℕ) (vs : List Value) (q : ℕ)
    → Gives bytes (values_of kinds) p vs q → HaveKinds bytes kinds p vs q
unfolding values_of
values-kinds bytes kinds p vs q g =
    let s = gives-split bytes (kinded_values kinds) (values_in kinds) p vs q g in
    record {
      those = s.0;
      given = subst (λ (n : ℕ). Gives bytes (kinded_values kinds) p s.0 n) (sym s.3.1) s.2;
      same = s.3.0;
    }

pub values-fit : (bytes : List ℕ) (kinds : List Kind) (p : ℕ) (vs : List Value) (q : ℕ)
    → Gives bytes (values_of kinds) p vs q → same_kinds (kinds_of vs) kinds ≡ true
values-fit bytes kinds p vs q g =
    let have = values-kinds bytes kinds p vs q g in
    subst (λ (ws : List Value). same_kinds (kinds_of ws) kinds ≡ true) (sym have.same) have.those.fits

pub kinded-err : (bytes : List ℕ) (kinds : List Kind) (p : ℕ) (e : Refusal ImageFault)
    → Reads bytes (values_of kinds) p (Err e) → Reads bytes (kinded_values kinds) p (Err e)
unfolding values_of
kinded-err bytes kinds p (Fault fault) g =
    faults-split bytes (kinded_values kinds) (values_in kinds) p fault (λ x q f. f) g
kinded-err bytes kinds p NoMemory g = tt
