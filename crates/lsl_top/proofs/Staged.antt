-- Runs at stages: where they begin, and what their pieces report and send.
use Rattle.std.proofs.Common.{◌≡◌, ℕ, List, [], ◌∷◌, ◌++◌, Some, None, Result, Ok, Err, refl, ap, ap₂, sym, ◌∙◌, subst, arith, append-nil}
use Rattle.std.specs.Prelude.{All, IfOk}
use Rattle.std.proofs.lemmas.List.Elements.{All-weaker}
use Rattle.lsl_code.specs.declared.woven_units.Woven.{Woven as Code}
use Rattle.lsl_ports.specs.Trips.{Trip}
use Rattle.lsl_handoff.specs.declared.card.Card.{Card}
use Rattle.lsl_tree.specs.Program.{Program}
use Rattle.lsl_post.specs.Told.{Told}
use Rattle.lsl_lines.specs.Journal.{lines_of}
use Rattle.lsl_lines.specs.declared.file.Step.{Step}
use Rattle.lsl_script.specs.Rules.{Rules}
use Rattle.lsl_region.specs.declared.objects.Linkset.{Linkset}
use Rattle.lsl_region.specs.Worlds.{World}
use Rattle.lsl_world.specs.declared.world.World.{World as Memory}
use Rattle.lsl_world.specs.Handing.{CanHand}
use Rattle.lsl_world.specs.Kept.{regions_of}
use Rattle.lsl_world.specs.Lossy.{Stage, cards_at_start, goes, lossy_stage, plain_stage, sent_from, travel_from}
use Rattle.lsl_world.specs.Orders.{AreAtMost, AreInOrder}
use Rattle.lsl_world.specs.Regions.{LeadsToNamed}
use Rattle.lsl_world.specs.Reports.{homes}
use Rattle.lsl_world.specs.Stages.{IsAt}
use Rattle.lsl_world.specs.Stands.{IsOf}
use Rattle.lsl_world.specs.Travels.{go_on, left}
use Rattle.lsl_world.proofs.Staging.{plain-travels}
use Rattle.lsl_top.specs.Pieces.{Piece, last_piece, lines_in, pieces_at, pieces_from, sent_in, stage_pieces, step_piece, step_pieces}
use Rattle.lsl_top.specs.Plays.{Last, Homes}
use Rattle.lsl_top.proofs.Performing.{last-silent}
use Rattle.lsl_top.proofs.Pieces.{lines_in-append, sent_in-append}
use Rattle.lsl_top.proofs.Written.{lines-append}

-- the world in memory is where a run without notes begins
pub at-plain : (programs : List Program) (memory : Memory) (w : World) → IsOf programs memory w → memory.cards ≡ None
    → IsAt programs memory (plain_stage w)
at-plain programs memory w is none = record {
  of = is;
  cards = none;
  ordered = λ cards some. absurd (cc);
}

pub ok-as : {A E : Type 0} (P Q : A → Type 0) (result : Result A E) → ((a : A) → P a → Q a) → IfOk result P
    → IfOk result Q
ok-as P Q (Ok a) f h = f a h
ok-as P Q (Err e) f h = tt

-- it is where a run begins in which objects are handed over by notes
pub at-lossy : {E : Type 0} (programs : List Program) (before : Memory) (w : World) (regions : List (List ℕ))
    (result : Result Memory E) → IsOf programs before w → before.regions ≡ regions
    → IfOk result (λ m. IsOf programs m w)
    → IfOk result (λ m. (cards : List (List Card)) × (m.cards ≡ Some cards)
    × AreInOrder m.regions cards (regions_of w) × AreAtMost 0 cards)
    → IfOk result (λ m. m.cards ≡ Some (cards_at_start before.regions before.grid.objects))
    → IfOk result (λ m. IsAt programs m (lossy_stage regions w))
at-lossy programs before w regions (Ok m) was same of order has =
    let there : m.cards ≡ Some (cards_at_start regions w.objects) =
    has ∙ ap (λ (os : List Linkset). Some (cards_at_start before.regions os)) was.stands.objects
    ∙ ap (λ (rs : List (List ℕ)). Some (cards_at_start rs w.objects)) same in
    record {
      of = of;
      cards = there;
      ordered = λ cards some.
          let alike : order.0 ≡ cards = (let e = sym order.1 ∙ there ∙ some in cc) in
          record {
            order = subst (λ (cs : List (List Card)). AreInOrder m.regions cs (regions_of w)) alike order.2;
            past = λ note none. absurd (omega (arith, none.1));
            notes = λ note none. absurd (omega (arith, none.1));
            offers = λ note none. absurd (omega (arith, none.1));
          };
    }
at-lossy programs before w regions (Err e) was same of order has = tt

-- and its steps can be done
pub hands-named : {E : Type 0} (before : Memory) (steps : List Step) (result : Result Memory E)
    → All (LeadsToNamed before.regions) steps → IfOk result (λ m. m.regions ≡ before.regions)
    → IfOk result (λ m. All (CanHand m) steps)
hands-named before steps result named same =
    ok-as (λ m. m.regions ≡ before.regions) (λ m. All (CanHand m) steps) result
    (λ m e. All-weaker (LeadsToNamed before.regions) (CanHand m)
    (λ step leads cards some. subst (λ (rs : List (List ℕ)). LeadsToNamed rs step) (sym e) leads) steps named) same

module _ (codes : List Code) (r : Rules) (regions : List (List ℕ)) where
  plain-pieces : (steps : List Step) (trips : List Trip) (w : World)
      → stage_pieces codes r regions steps trips (plain_stage w) ≡ step_pieces codes r steps trips w
  unfolding stage_pieces step_pieces
  plain-pieces [] trips w = refl
  plain-pieces (step ∷ steps) trips w =
      ap (λ (z : List Piece). step_piece codes r step trips w ∷ z)
      (plain-pieces steps (left step w trips) (go_on r step trips w).value)

  pub plain-at : (last : Last) (steps : List Step) (trips : List Trip) (w : World)
      → pieces_at last codes r regions steps trips (plain_stage w) ≡ pieces_from last codes r steps trips w
  plain-at last steps trips w =
      ap₂ (λ (xs : List Piece) (t : Told Stage). xs ++ last_piece last codes t.value.world ∷ [])
      (plain-pieces steps trips w) (plain-travels codes r regions steps trips w)

  stage-lines : (steps : List Step) (trips : List Trip) (stage : Stage)
      → lines_in (stage_pieces codes r regions steps trips stage)
      ≡ lines_of (travel_from codes r regions steps trips stage).entries
  unfolding stage_pieces travel_from
  stage-lines [] trips stage = refl
  stage-lines (step ∷ steps) trips stage =
      let gone = goes codes r regions step stage trips in
      ap (λ (z : List ℕ). lines_of gone.told.entries ++ z) (stage-lines steps gone.behind gone.told.value)
      ∙ sym (lines-append gone.told.entries (travel_from codes r regions steps gone.behind gone.told.value).entries)

  stage-sends : (steps : List Step) (trips : List Trip) (stage : Stage)
      → sent_in (stage_pieces codes r regions steps trips stage) ≡ sent_from codes r regions steps trips stage
  unfolding stage_pieces sent_from
  stage-sends [] trips stage = refl
  stage-sends (step ∷ steps) trips stage =
      let gone = goes codes r regions step stage trips in
      ap (λ (z : List (List ℕ)). gone.sent ++ z) (stage-sends steps gone.behind gone.told.value)

  pub lines-at : (steps : List Step) (trips : List Trip) (stage : Stage)
      → lines_in (pieces_at Homes codes r regions steps trips stage)
      ≡ lines_of (travel_from codes r regions steps trips stage).entries
      ++ lines_of (homes (travel_from codes r regions steps trips stage).value.world)
  lines-at steps trips stage =
      let told = travel_from codes r regions steps trips stage in
      let end = last_piece Homes codes told.value.world in
      lines_in-append (stage_pieces codes r regions steps trips stage) (end ∷ [])
      ∙ ap (λ (z : List ℕ). z ++ lines_in (end ∷ [])) (stage-lines steps trips stage)
      ∙ ap (λ (z : List ℕ). lines_of told.entries ++ z) (append-nil end.lines)

  pub sent-at : (steps : List Step) (trips : List Trip) (stage : Stage)
      → sent_in (pieces_at Homes codes r regions steps trips stage) ≡ sent_from codes r regions steps trips stage
  sent-at steps trips stage =
      let told = travel_from codes r regions steps trips stage in
      let end = last_piece Homes codes told.value.world in
      sent_in-append (stage_pieces codes r regions steps trips stage) (end ∷ [])
      ∙ ap (λ (z : List (List ℕ)). sent_in (stage_pieces codes r regions steps trips stage) ++ (z ++ []))
      (sym (last-silent Homes codes told.value.world))
      ∙ append-nil (sent_in (stage_pieces codes r regions steps trips stage)) ∙ stage-sends steps trips stage
