-- Headers in a row, from the first to the last.
use Rattle.std.proofs.Common.{◌≡◌, ℕ, ◌+◌, ◌<◌, ◌≤◌, List, [], ◌∷◌, length, drop, get_or, refl, sym, ap, ◌∙◌, arith}
use Rattle.std.proofs.Common.{Bool, true, false}
use Rattle.std.specs.Prelude.{Some, None, Ok, ◌||◌, ◌&&◌}
use Rattle.std.specs.List.{list_any}
use Rattle.std.proofs.lemmas.Bool.Decides.{same_from_decides}
use denote.Enum.Bare.{sameb, same_true, true_same}
use Rattle.lsl_value.specs.contracts.names.EventId.{the_type}
use Rattle.lsl_value.specs.declared.tagged.Kind.{Kind}
use Rattle.lsl_value.specs.declared.tagged.Kind.TheVariants.{List as ListKind}
use Rattle.lsl_value.specs.declared.names.EventId.{EventId}
use Rattle.lsl_tree.specs.declared.script.Atom.{Atom}
use Rattle.lsl_tree.specs.declared.script.Handler.{Handler}
use Rattle.lsl_tree.specs.declared.script.Header.{Header}
use Rattle.lsl_tree.specs.declared.script.State.{State}
use Rattle.lsl_tree.specs.Scripts.{header_of, handler_of, state_of}
use Rattle.lsl_tree.specs.declared.program.Part.{Part}
use Rattle.lsl_bodies.specs.declared.faults.TypeKind.TheVariants.{WrongKind}
use Rattle.lsl_type.specs.Headers.{HeadersView}
use Rattle.lsl_bodies.specs.Sameness.{same_event, same_kind, same_kinds}
use Rattle.lsl_tree.specs.Initials.{part_kind_of}
use Rattle.lsl_bodies.specs.Conversions.{is_no_list}
use Rattle.lsl_bodies.specs.Spans.{atom_span}
use Rattle.lsl_bodies.specs.Judgement.{at}
use Rattle.lsl_bodies.specs.Verdict.{Verdict, ◌>>=◌, must_verdict}
use Rattle.lsl_type.specs.HeaderVerdicts.{flat_parts_verdict, header_verdict, state_verdict, handler_verdict, has_event}
use Rattle.lsl_type.proofs.ScriptLemmas.{event_same, same_event-same}
use Rattle.lsl_bodies.proofs.Walks.{left, drop_all}

abbrev pub part_flat_r : Part → Atom → Verdict (Unit {0})
part_flat_r p a = must_verdict (is_no_list (part_kind_of p)) (at (WrongKind None (Some ListKind)) (atom_span a))

pub parts_next : (i : ℕ) (xs : List Atom) (x : Atom) (ps : List Part) (p : Part) (whole : Verdict (Unit {0}))
    → i < length xs → x ≡ get_or xs i x → i < length ps → p ≡ get_or ps i p
    → flat_parts_verdict (drop i xs) (drop i ps) ≡ whole
    → (part_flat_r p x >>= λ u. flat_parts_verdict (drop (i + 1) xs) (drop (i + 1) ps)) ≡ whole
parts_next i xs x ps p whole hx ex hp ep inv =
    sym (ap (λ l. flat_parts_verdict l (p ∷ drop (i + 1) ps)) (left xs i x hx ex))
    ∙ (sym (ap (λ l. flat_parts_verdict (drop i xs) l) (left ps i p hp ep)) ∙ inv)

pub parts_end : (i : ℕ) (xs : List Atom) (ps : List Part) (whole : Verdict (Unit {0})) → length xs ≤ i
    → flat_parts_verdict (drop i xs) (drop i ps) ≡ whole → whole ≡ Ok tt
parts_end i xs ps whole h inv = sym inv ∙ ap (λ l. flat_parts_verdict l (drop i ps)) (drop_all xs i h)

abbrev pub header_next : HeadersView → Header → Verdict HeadersView
header_next h x = header_verdict h (header_of x)

abbrev pub state_next : List (List ℕ) → State → Verdict (List (List ℕ))
state_next names x = state_verdict names (state_of x)

abbrev pub handler_next : List EventId → Handler → Verdict (List EventId)
handler_next events x = handler_verdict events (handler_of x)

-- tests of events and kinds
list_any-same : {X : Type 0} (p q : X → Bool) → ((x : X) → p x ≡ q x) → (xs : List X) → list_any p xs ≡ list_any q xs
list_any-same p q h [] = refl
list_any-same p q h (x ∷ xs) = ap (λ b. b || list_any p xs) (h x) ∙ ap (λ b. q x || b) (list_any-same p q h xs)

event_tested : (a b : EventId) → sameb the_type a b ≡ same_event a b
event_tested a b = same_from_decides (sameb the_type a b) (same_event a b)
    (same_true the_type tt a b, true_same the_type a b) (event_same a b, same_event-same a b)

pub any_event : (events : List EventId) (event : EventId)
    → list_any (λ y. sameb the_type y event) events ≡ has_event events event
any_event events event = list_any-same (λ y. sameb the_type y event) (λ y. same_event y event)
    (λ y. event_tested y event) events

-- kinds that are of other numbers differ
pub same_kinds-counts : (a b : List Kind) → (length a ≡ length b → ⊥) → same_kinds a b ≡ false
same_kinds-counts [] [] h = absurd (h refl)
same_kinds-counts [] (y ∷ b) h = refl
same_kinds-counts (x ∷ a) [] h = refl
same_kinds-counts (x ∷ a) (y ∷ b) h = ap (λ t. same_kind x y && t)
    (same_kinds-counts a b (λ e. h (omega (arith, e)))) ∙ and_false (same_kind x y)
  where
    and_false : (t : Bool) → (t && false) ≡ false
    and_false true = refl
    and_false false = refl
