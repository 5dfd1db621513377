-- A global's initial value has its kind, and names only constants and earlier globals.
use Rattle.std.proofs.Common.{◌≡◌, ℕ, ◌+◌, Option, Some, None, List, [], ◌∷◌, length, refl, subst, arith, slice_get}
use Rattle.std.specs.Prelude.{All}
use Rattle.std.specs.Option.{option_and_then}
use Rattle.std.proofs.lemmas.List.{length_push}
use Rattle.std.proofs.lemmas.List.Elements.{All-nil, All-cons, All-head, All-tail, All-push}
use Rattle.lsl_text.specs.declared.Span.{Span}
use Rattle.lsl_value.specs.declared.tagged.Kind.{Kind}
use Rattle.lsl_value.specs.declared.tagged.Kind.TheVariants.{Int, Str, Key, List as ListKind}
use Rattle.lsl_value.specs.declared.names.ConstantId.{ConstantId}
use Rattle.lsl_tree.specs.declared.script.Atom.{Atom}
use Rattle.lsl_tree.specs.declared.script.Atom.TheVariants as atom
use Rattle.lsl_tree.specs.declared.program.Part.{Part}
use Rattle.lsl_tree.specs.declared.program.Part.TheVariants as part
use Rattle.lsl_tree.specs.declared.program_node.Place.{Place}
use Rattle.lsl_tree.specs.declared.program_node.Place.TheVariants.{Global, Slot}
use Rattle.lsl_tree.specs.Scripts as source
use Rattle.lsl_tree.specs.Scripts.{Simple, Header}
use Rattle.lsl_tree.specs.Program as program
use Rattle.lsl_tree.specs.Program.{Initial}
use Rattle.lsl_tree.specs.Initials.{part_kind_of, initial_kind_of, IsKindedPart, IsKindedElement, IsKindedInitial}
use Rattle.lsl_bodies.specs.declared.faults.TypeKind.TheVariants.{WrongKind, NotConstant}
use Rattle.lsl_bodies.specs.declared.frame.Variable.{Variable}
use Rattle.lsl_bodies.specs.Names.{nearest}
use Rattle.lsl_bodies.specs.Scope.{ScopeView, spelled, variable_of}
use Rattle.lsl_bodies.specs.Table.{constant_of, constant_kind_of}
use Rattle.lsl_bodies.specs.Conversions.{Fit, Same, ByCast, Not, fit_of, fitted_initial, initial_as_kind}
use Rattle.lsl_bodies.specs.Conversions.{empty_initial, is_no_list}
use Rattle.lsl_bodies.specs.Spans.{atom_span}
use Rattle.lsl_bodies.specs.Judgement.{at}
use Rattle.lsl_bodies.specs.Verdict.{each_verdict}
use Rattle.lsl_type.specs.HeaderVerdicts.{constant_part, part_of, part_by, initial_part_verdict, next_part_verdict}
use Rattle.lsl_type.specs.HeaderVerdicts.{flat_parts_verdict, initial_verdict, initial_become_verdict}
use Rattle.lsl_bodies.proofs.Yielding.{Yields, gives_yields, then_yields, rest_yields, both_yield, weaker_yields}
use Rattle.lsl_bodies.proofs.Yielding.{the_one_yields, must_yields, each_yields, each_counts}
use Rattle.lsl_bodies.proofs.FitLemmas.{Fits, fit_fits, is_no_list-apart}
use Rattle.lsl_bodies.proofs.KindSettings.{Setting, HasKind, HaveKinds}

-- a global of this kind
abbrev pub GlobalAt : List Kind → Place → Kind → Type 0
GlobalAt globals (Global i) k = slice_get globals i ≡ Some k
GlobalAt globals (Slot i) k = ⊥

abbrev pub AreGlobals : List Kind → List Variable → Type 0
AreGlobals globals vs = (n : ℕ) (v : Variable) → slice_get vs n ≡ Some v → GlobalAt globals v.place v.kind

global_has : (c : Setting) (p : Place) (k : Kind) → GlobalAt c.globals p k
    → HasKind c (record { place = p; kind = k })
global_has c (Global i) k h = h
global_has c (Slot i) k h = absurd h

pub globals_have : (c : Setting) (vs : List Variable) → AreGlobals c.globals vs → HaveKinds c vs
globals_have c vs h n v e = global_has c v.place v.kind (h n v e)

-- the initial value of a global after globals of these kinds
module _ (globals : List Kind) (s : ScopeView) (have : AreGlobals globals s.variables) where
  abbrev PartIn : Part → Type 0
  PartIn p = IsKindedPart globals p

  place_part : (q : Place) (k : Kind) (p : Part) → GlobalAt globals q k
      → part_of (record { place = q; kind = k }) ≡ Some p → PartIn p
  place_part (Global i) k p h e = let same : part.Global i k ≡ p = cc in subst PartIn same h
  place_part (Slot i) k p h e = absurd h

  constant_in : (o : Option ConstantId) (p : Part) → constant_part o ≡ Some p → PartIn p
  unfolding constant_kind_of
  constant_in None p e = absurd (cc)
  constant_in (Some id) p e = let same : part.Constant id (constant_kind_of id) ≡ p = cc in subst PartIn same refl

  part_yields : (a : Atom) → Yields PartIn (initial_part_verdict s a)
  part_yields (atom.Int n span) = gives_yields tt
  part_yields (atom.Negative n span) = gives_yields tt
  part_yields (atom.Str t span) = gives_yields tt
  part_yields (atom.Constant x) = go (variable_of s (spelled x)) refl
    where
      found : (m : Option ℕ) (v : Variable) → option_and_then (slice_get s.variables) m ≡ Some v
          → GlobalAt globals v.place v.kind
      found None v e = absurd (cc)
      found (Some n) v e = have n v e

      go : (o : Option Variable) → variable_of s (spelled x) ≡ o → Yields PartIn (part_by o x)
      go (Some v) e =
          the_one_yields (part_of v) (at NotConstant x.span) (λ p g.
          place_part v.place v.kind p (found (nearest (spelled x) s.names) v e) g)
      go None e =
          let constant = constant_of (spelled x) in
          the_one_yields (constant_part constant) (at NotConstant x.span) (λ p g. constant_in constant p g)

  parts_yield : (atoms : List Atom)
      → Yields (λ ps. All PartIn ps × (length ps ≡ 0 + length atoms)) (each_verdict (next_part_verdict s) [] atoms)
  parts_yield atoms =
      both_yield
      (each_yields (All PartIn) (next_part_verdict s)
      (λ before a b. then_yields (part_yields a) (λ p h. gives_yields (All-push PartIn before p b h)))
      [] atoms (All-nil PartIn))
      (each_counts length (next_part_verdict s)
      (λ before a. rest_yields (initial_part_verdict s a) (λ p. gives_yields (length_push before p)))
      [] atoms)

  abbrev ElementsIn : List Part → Type 0
  ElementsIn ps = All (IsKindedElement globals) ps

  flat_yields : (atoms : List Atom) (ps : List Part) → All PartIn ps → length ps ≡ length atoms
      → Yields (λ u. ElementsIn ps) (flat_parts_verdict atoms ps)
  flat_yields [] [] h e = gives_yields (All-nil (IsKindedElement globals))
  flat_yields [] (p ∷ ps) h e = absurd (omega (arith, e))
  flat_yields (a ∷ atoms) [] h e = absurd (omega (arith, e))
  flat_yields (a ∷ atoms) (p ∷ ps) h e =
      let row = is_no_list (part_kind_of p) in
      let fault = at (WrongKind None (Some ListKind)) (atom_span a) in
      then_yields (must_yields row fault) (λ u r.
      weaker_yields (flat_yields atoms ps (All-tail PartIn p ps h) (omega (arith, e))) (λ u t.
      All-cons (IsKindedElement globals) p ps (is_no_list-apart (part_kind_of p) r, All-head PartIn p ps h) t))

  -- the only cast there is implicit
  abbrev HasNoCast : Initial → Type 0
  HasNoCast (program.Single p) = Unit {0}
  HasNoCast (program.Cast k p) = ⊥
  HasNoCast (program.ListLiteral ps) = Unit {0}

  abbrev pub IsWritten : Initial → Type 0
  IsWritten v = IsKindedInitial globals v × HasNoCast v

  pub initial_yields : (v : Simple) → Yields IsWritten (initial_verdict s v)
  initial_yields (source.Atom a) = then_yields (part_yields a) (λ p h. gives_yields (h, tt))
  initial_yields (source.Atoms span atoms) =
      then_yields (parts_yield atoms) (λ ps h.
      then_yields (flat_yields atoms ps h.0 (omega (arith, h.1))) (λ u t.
      gives_yields (t, tt)))

  abbrev pub InitialOf : Kind → Initial → Type 0
  InitialOf k v = (initial_kind_of v ≡ k) × IsKindedInitial globals v

  fitted_kind : (f : Fit) (k : Kind) (v w : Initial) → Fits f (initial_kind_of v) k → IsWritten v
      → fitted_initial f k v ≡ Some w → InitialOf k w
  fitted_kind Same k v w fits h e = let same : v ≡ w = cc in subst (InitialOf k) same (fits, h.0)
  fitted_kind ByCast k (program.Single p) w fits h e = let same : program.Cast k p ≡ w =
      cc in subst (InitialOf k) same (refl, (fits.1, h.0))
  fitted_kind ByCast k (program.Cast from p) w fits h e = absurd h.1
  fitted_kind ByCast k (program.ListLiteral ps) w fits h e = absurd (fits.2 refl)
  fitted_kind Not k v w fits h e = absurd (cc)

  pub become_yields : (k : Kind) (v : Initial) (span : Span) → IsWritten v
      → Yields (InitialOf k) (initial_become_verdict k v span)
  become_yields k v span h =
      the_one_yields (initial_as_kind k v) (at (WrongKind (Some k) (Some (initial_kind_of v))) span)
      (λ w e. fitted_kind (fit_of (initial_kind_of v) k) k v w (fit_fits (initial_kind_of v) k) h e)

  pub empty_kind : (k : Kind) → InitialOf k (empty_initial k)
  empty_kind Int = (refl, tt)
  empty_kind Str = (refl, tt)
  empty_kind Key = (refl, (refl, tt))
  empty_kind ListKind = (refl, All-nil (IsKindedElement globals))
