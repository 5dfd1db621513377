-- Where a script goes after its handler ended.
use Rattle.std.proofs.Common.{◌≡◌, ◌≢◌, ℕ, ◌+◌, ◌<◌, ◌≤◌, List, [], Bool, true, false, Option, None, Some, length, min, refl, sym, ap, ◌∙◌, subst, eq-eqb, arith}
use Rattle.std.proofs.lemmas.Bool.{false≢true}
use Rattle.std.specs.Prelude.{if◌then◌else◌, is_some, nat_eq}
use Rattle.lsl_value.specs.declared.names.EventId.TheVariants as event
use Rattle.lsl_value.specs.declared.tagged.Value.{Value}
use Rattle.lsl_running.specs.declared.ends.Outcome.{Outcome}
use Rattle.lsl_running.specs.declared.ends.Outcome.TheVariants as outcome
use Rattle.lsl_running.specs.declared.kept.Kept.{Kept}
use Rattle.lsl_running.specs.Charging.{charges_of, default_limit}
use Rattle.lsl_code.specs.declared.woven_units.Woven.{Woven as Code}
use Rattle.lsl_code.specs.Kinded.{IsOutcome}
use Rattle.lsl_code.specs.Kinds.{kinds_of}
use Rattle.lsl_code.specs.Units.{handler_of}
use Rattle.lsl_post.specs.declared.parts.Rest.TheVariants.{Idle}
use Rattle.lsl_post.specs.declared.parts.ScriptParts.{ScriptParts}
use Rattle.lsl_post.specs.Listens.{no_listens, standing}
use Rattle.lsl_post.specs.Mailbox.{queue_after}
use Rattle.lsl_post.specs.Timing.{stopped}
use Rattle.lsl_script.specs.declared.going.Going.{Going}
use Rattle.lsl_script.specs.declared.going.Going.TheVariants.{Stays, Leaves, Enters, Restarts}
use Rattle.lsl_script.specs.Awake.{IsLeft}
use Rattle.lsl_script.specs.Closing.{begun_again, count_gone, gone_parts}
use Rattle.lsl_script.specs.Codes.{HasUnit, globals_in, rules_of}
use Rattle.lsl_script.specs.Fitting.{CanLeave, CanRest, FitsStates, FitsUnit, has_handler, least_limit}
use Rattle.lsl_script.specs.Handlers.{going_from, going_of, going_on, gone, resting_charge}
use Rattle.lsl_script.specs.Lawful.{IsTiming, Lawful}
use Rattle.lsl_script.specs.Lives.{entries_of_clearing}
use Rattle.lsl_script.specs.Parts.{parts_of, timer_of}
use Rattle.lsl_script.specs.Resting.{keeping}
use Rattle.lsl_script.specs.Scripts.{Script, Resting, fresh, handles, state_entry}
use Rattle.lsl_script.proofs.Fits.{entered_fits}
use Rattle.lsl_script.proofs.Posting.{handler_is}
use Rattle.lsl_script.proofs.Units.{sound}

-- parts with what a handler left
abbrev pub left_parts : ScriptParts → Kept → ScriptParts
left_parts parts kept = keeping kept parts

module _ (unit : Code) (parts : ScriptParts) (kept : Kept) (idle : parts.rest ≡ Idle)
    (fits : FitsStates unit.states parts.state parts.leaving parts.queue)
    (kinds : kinds_of kept.globals ≡ kinds_of unit.globals) (least : least_limit ≤ kept.limit)
    (small : kept.limit ≤ default_limit)
  where
    idle_rests : (state : ℕ) (leaving : Option ℕ) (globals : List Value) (limit : ℕ)
        → CanRest unit state leaving globals limit parts.rest
    idle_rests state leaving globals limit = subst (CanRest unit state leaving globals limit) (sym idle) tt

    stays_fits : FitsUnit unit (left_parts parts kept)
    stays_fits = record {
      states = fits;
      globals = kinds;
      least = least;
      limit = small;
      rest = idle_rests parts.state parts.leaving kept.globals kept.limit;
    }

    leaves_fits : (to : ℕ) → to < length unit.states → to ≢ parts.state
        → has_handler unit.states parts.state event.StateExit ≡ true
        → FitsUnit unit (gone_parts unit (Leaves to) (left_parts parts kept))
    leaves_fits to there other exits = record {
      states = record {
        stands = fits.stands;
        leaves = record { there = there; other = other; exit = exits };
        waits = fits.waits;
      };
      globals = kinds;
      least = least;
      limit = small;
      rest = idle_rests parts.state (Some to) kept.globals kept.limit;
    }

    enters_fits : (to : ℕ) → to < length unit.states → FitsUnit unit (gone_parts unit (Enters to) (left_parts parts
        kept))
    enters_fits to there = record {
      states = entered_fits unit.states (record (left_parts parts kept) {
        state = to;
        leaving = None;
        listens = standing parts.listens.next [];
        queue = [];
      }) there refl refl;
      globals = kinds;
      least = least;
      limit = small;
      rest = idle_rests to None kept.globals kept.limit;
    }

    pub restarts_fits : FitsUnit unit (begun_again unit (left_parts parts kept))
    restarts_fits = record {
      states = entered_fits unit.states (record (left_parts parts kept) {
        globals = unit.globals;
        limit = default_limit;
        state = 0;
        leaving = None;
        queue = [];
        listens = no_listens;
        timer = timer_of stopped;
      }) (sound unit).some_state refl refl;
      globals = refl;
      least = omega arith;
      limit = omega arith;
      rest = idle_rests 0 None unit.globals default_limit;
    }

    from_fits : (way : Outcome) → IsOutcome (length unit.states) way
        → FitsUnit unit (gone_parts unit (going_from parts.state (has_handler unit.states parts.state
        event.StateExit) way)
        (left_parts parts kept))
    from_fits outcome.Return there = stays_fits
    from_fits outcome.Reset there = restarts_fits
    from_fits (outcome.StateTo to) there =
        by_test (nat_eq to parts.state) (has_handler unit.states parts.state event.StateExit) refl refl
      where
        by_test : (same exits : Bool) → nat_eq to parts.state ≡ same
            → has_handler unit.states parts.state event.StateExit ≡ exits
            → FitsUnit unit (gone_parts unit (if same then Stays else (if exits then Leaves to else Enters to))
            (left_parts parts kept))
        by_test true exits is has = stays_fits
        by_test false true is has =
            leaves_fits to there (λ same. false≢true (sym is ∙ eq-eqb to parts.state same)) has
        by_test false false is has = enters_fits to there

    on_fits : (to : ℕ) (way : Outcome) → to < length unit.states
        → FitsUnit unit (gone_parts unit (going_on to way) (left_parts parts kept))
    on_fits to outcome.Return there = enters_fits to there
    on_fits to (outcome.StateTo other) there = enters_fits to there
    on_fits to outcome.Reset there = restarts_fits

    of_fits : (leaving : Option ℕ) (way : Outcome) → CanLeave unit.states parts.state leaving
        → IsOutcome (length unit.states) way
        → FitsUnit unit (gone_parts unit (going_of leaving parts.state (has_handler unit.states parts.state
        event.StateExit) way)
        (left_parts parts kept))
    of_fits None way leaves there = from_fits way there
    of_fits (Some to) way leaves there = on_fits to way leaves.there

    -- wherever it goes
    pub gone_fits : (way : Outcome) → IsOutcome (length unit.states) way
        → FitsUnit unit (gone_parts unit (going_of parts.leaving parts.state (has_handler unit.states parts.state
        event.StateExit) way)
        (left_parts parts kept))
    gone_fits way there = of_fits parts.leaving way fits.leaves there

-- the source script goes there too
abbrev pub left_script : Script → Kept → Script
left_script s kept = record s { kept = kept; doing = Resting }

module _ (codes : List Code) (unit : Code) (s : Script) (kept : Kept) (number : ℕ) (known : HasUnit codes s.code
    unit) where
  entry_heard : (state : ℕ) → is_some (handler_of unit.states state event.StateEntry)
      ≡ handles (rules_of codes) s.code state event.StateEntry
  entry_heard state = ap is_some (sym (handler_is codes s.code state event.StateEntry unit known))

  initial_is : unit.globals ≡ (rules_of codes).initial s.code
  initial_is = ap (λ (o : Option Code). globals_in o) (sym known)

  pub gone_is : (going : Going) → gone_parts unit going (parts_of codes (left_script s kept))
      ≡ parts_of codes (gone (rules_of codes) number (record s { kept = kept }) going).value
  gone_is Stays = refl
  gone_is (Leaves to) = refl
  gone_is (Enters to) =
      ap {A = Bool} {B = ScriptParts}
      (λ heard. record (parts_of codes (left_script s kept)) {
        state = to;
        leaving = None;
        listens = standing s.mailbox.listens.next [];
        queue = queue_after heard state_entry [];
      }) (entry_heard to)
  gone_is Restarts =
      ap {A = Bool} {B = ScriptParts}
      (λ heard. record (parts_of codes (left_script s kept)) {
        globals = unit.globals;
        limit = default_limit;
        state = 0;
        leaving = None;
        listens = no_listens;
        timer = timer_of stopped;
        queue = queue_after heard state_entry [];
      }) (entry_heard 0)
      ∙ ap {A = List Value} {B = ScriptParts}
      (λ globals. record (parts_of codes (fresh (rules_of codes) s.code s.wake)) { globals = globals }) initial_is

  pub gone_told : (going : Going) → (gone (rules_of codes) number (record s { kept = kept }) going).entries
      ≡ entries_of_clearing number (count_gone going s.mailbox.queue)
  gone_told Stays = refl
  gone_told (Leaves to) = refl
  gone_told (Enters to) = refl
  gone_told Restarts = refl

  pub gone_lawful : IsTiming s.mailbox.timing → (going : Going)
      → Lawful (rules_of codes) (gone (rules_of codes) number (record s { kept = kept }) going).value
  gone_lawful timing Stays = record { timing = timing; doing = tt }
  gone_lawful timing (Leaves to) = record { timing = timing; doing = tt }
  gone_lawful timing (Enters to) = record { timing = timing; doing = tt }
  gone_lawful timing Restarts = record { timing = refl; doing = tt }

-- the charge of what a handler left fits
pub charge_is : (kept : Kept) → IsLeft kept
    → min (1024 + charges_of kept.globals) 18446744073709551615 ≡ resting_charge kept
charge_is kept left = let a = left.charge in let b = left.limit in omega arith
