-- Evaluations that are lost only by an answer that its call never has.
use Rattle.std.proofs.Common.{◌≡◌, ℕ, zero, suc, ◌+◌, List, [], ◌∷◌, ◌++◌, Bool, true, false, cond, Option, Some, None, refl, sym, ap, ◌∙◌, subst, append_assoc}
use Rattle.std.specs.Prelude.{is_some}
use Rattle.lsl_value.specs.Values.{charge_of}
use Rattle.lsl_value.specs.declared.names.BuiltinId.{BuiltinId}
use Rattle.lsl_value.specs.declared.tagged.Value.{Value}
use Rattle.lsl_running.specs.declared.ends.Fault.TheVariants.{StackHeap}
use Rattle.lsl_running.specs.declared.host.Reply.{Reply}
use Rattle.lsl_running.specs.Calling.{is_answered_by}
use Rattle.lsl_running.specs.Charging.{used, is_within}
use Rattle.lsl_running.specs.Results.{Asks, Fails, Lost}
use Rattle.lsl_meaning.specs.State.{State, Site, Evaluation, Gives, Stops, bind, give, give_result, tick}

-- with these answers left
abbrev pub with_answers : State → List Reply → State
with_answers s answers = record s { answers = answers }

-- one of these answers isn't one to its call; with those before it alone, the call asks
pub record IsAnsweredWrong {A : Type 0} (answers : List Reply) (f : List Reply → Evaluation A) : Type 0 where
  pub before : List Reply
  pub given : Reply
  pub more : List Reply
  pub id : BuiltinId
  pub asked : List Value
  pub split : answers ≡ before ++ given ∷ more
  pub asks : f before ≡ Stops (Asks id asked)
  pub wrong : is_answered_by id given ≡ false

-- some of these answers are taken, and whatever follows them is left
pub record TakesAnswers {A : Type 0} (answers : List Reply) (f : List Reply → Evaluation A) (a : A)
    (t : State) : Type 0 where
  pub taken : List Reply
  pub split : answers ≡ taken ++ t.answers
  pub same : (more : List Reply) → f (taken ++ more) ≡ Gives a (with_answers t more)

-- the result of an evaluation with these answers is as P says
abbrev pub Comes : {A : Type 0} → (A → Type 0) → List Reply → (List Reply → Evaluation A) → Evaluation A → Type 0
Comes P answers f (Gives a t) = P a × TakesAnswers answers f a t
Comes P answers f (Stops Lost) = IsAnsweredWrong answers f
Comes P answers f (Stops w) = Unit {0}

pub record Sound {A : Type 0} (P : A → Type 0) (answers : List Reply) (f : List Reply → Evaluation A) : Type 0 where
  pub comes : Comes P answers f (f answers)

abbrev pub Any : {A : Type 0} → A → Type 0
Any a = Unit {0}

-- a result is there exactly where one is given
abbrev pub Has : Bool → Option Value → Type 0
Has has o = is_some o ≡ has

behind : {A B : Type 0} (Q : B → Type 0) (answers : List Reply) (f : List Reply → Evaluation A)
    (go : A → State → Evaluation B) (a : A) (t : State) → TakesAnswers answers f a t
    → (r : Evaluation B) → Comes Q t.answers (λ x. go a (with_answers t x)) r
    → Comes Q answers (λ x. bind (f x) go) r
behind Q answers f go a t first (Gives b u) (q, next) = (
  q,
  record {
    taken = first.taken ++ next.taken;
    split = first.split ∙ ap (λ l. first.taken ++ l) next.split
        ∙ sym (append_assoc first.taken next.taken u.answers);
    same = λ more. ap (λ l. bind (f l) go) (append_assoc first.taken next.taken more)
        ∙ ap (λ r. bind r go) (first.same (next.taken ++ more)) ∙ next.same more;
  },
)
behind Q answers f go a t first (Stops Lost) next =
    record {
      before = first.taken ++ next.before;
      given = next.given;
      more = next.more;
      id = next.id;
      asked = next.asked;
      split = first.split ∙ ap (λ l. first.taken ++ l) next.split
          ∙ sym (append_assoc first.taken next.before (next.given ∷ next.more));
      asks = ap (λ r. bind r go) (first.same next.before) ∙ next.asks;
      wrong = next.wrong;
    }
behind Q answers f go a t first (Stops w) next = tt

both_come : {A B : Type 0} (P : A → Type 0) (Q : B → Type 0) (answers : List Reply) (f : List Reply → Evaluation A)
    (go : A → State → Evaluation B)
    → ((a : A) (t : State) → P a → Sound Q t.answers (λ x. go a (with_answers t x)))
    → (r : Evaluation A) → Comes P answers f r → Comes Q answers (λ x. bind (f x) go) (bind r go)
both_come P Q answers f go next (Gives a t) (p, first) =
    behind Q answers f go a t first (go a t) (next a t p).comes
both_come P Q answers f go next (Stops Lost) first =
    record {
      before = first.before;
      given = first.given;
      more = first.more;
      id = first.id;
      asked = first.asked;
      split = first.split;
      asks = ap (λ r. bind r go) first.asks;
      wrong = first.wrong;
    }
both_come P Q answers f go next (Stops w) first = tt

-- one evaluation after another
pub bind_sound : {A B : Type 0} (P : A → Type 0) (Q : B → Type 0) (answers : List Reply)
    (f : List Reply → Evaluation A) (go : A → State → Evaluation B) → Sound P answers f
    → ((a : A) (t : State) → P a → Sound Q t.answers (λ x. go a (with_answers t x)))
    → Sound Q answers (λ x. bind (f x) go)
bind_sound P Q answers f go first next =
    record { comes = both_come P Q answers f go next (f answers) first.comes }

pub gives_sound : {A : Type 0} (P : A → Type 0) (a : A) (answers : List Reply) (s : State) → P a
    → Sound P answers (λ x. Gives a (with_answers s x))
gives_sound P a answers s p =
    record { comes = (p, record { taken = []; split = refl; same = λ more. refl }) }

pub fails_sound : {A : Type 0} (P : A → Type 0) (answers : List Reply)
    → Sound P answers (λ x. Stops (Fails StackHeap))
fails_sound P answers = record { comes = tt }

pub cond_sound : {A : Type 0} (P : A → Type 0) (b : Bool) (answers : List Reply) (f g : List Reply → Evaluation A)
    → (b ≡ true → Sound P answers f) → (b ≡ false → Sound P answers g)
    → Sound P answers (λ x. cond b (f x) (g x))
cond_sound P true answers f g holds fails = holds refl
cond_sound P false answers f g holds fails = fails refl

weaker_comes : {A : Type 0} (P Q : A → Type 0) (answers : List Reply) (f : List Reply → Evaluation A)
    → ((a : A) → P a → Q a) → (r : Evaluation A) → Comes P answers f r → Comes Q answers f r
weaker_comes P Q answers f h (Gives a t) (p, first) = (h a p, first)
weaker_comes P Q answers f h (Stops Lost) first = first
weaker_comes P Q answers f h (Stops w) first = tt

pub weaker_sound : {A : Type 0} (P Q : A → Type 0) (answers : List Reply) (f : List Reply → Evaluation A)
    → ((a : A) → P a → Q a) → Sound P answers f → Sound Q answers f
weaker_sound P Q answers f h m = record { comes = weaker_comes P Q answers f h (f answers) m.comes }

pub give_sound : (v : Value) (site : Site) (s : State) → Sound Any s.answers (λ x. give v site (with_answers s x))
give_sound v site s =
    cond_sound Any (is_within s.kept (used (site.held + charge_of v) s.slots s.kept)) s.answers _ _
    (λ _. gives_sound Any v s.answers s tt) (λ _. fails_sound Any s.answers)

pub give_result_sound : (has : Bool) (o : Option Value) (site : Site) (s : State) → is_some o ≡ has
    → Sound (Has has) s.answers (λ x. give_result o site (with_answers s x))
give_result_sound has None site s e = gives_sound (Has has) None s.answers s e
give_result_sound has (Some v) site s e =
    bind_sound Any (Has has) s.answers (λ x. give v site (with_answers s x)) _ (give_sound v site s)
    (λ w t _. gives_sound (Has has) (Some w) t.answers t e)

-- a tick passes, or none is left
pub tick_sound : {A : Type 0} (P : A → Type 0) (ticks line : ℕ) (site : Site) (s : State) (go : State → Evaluation A)
    → ((left : ℕ) → Sound P s.answers (λ x. go (with_answers (record s { ticks = left }) x)))
    → Sound P s.answers (λ x. tick ticks line site (with_answers s x) go)
tick_sound P zero line site s go next = record { comes = tt }
tick_sound P (suc ticks) line site s go next = next ticks

-- an answer is taken first
taken_comes : {A : Type 0} (P : A → Type 0) (r : Reply) (answers : List Reply) (f g : List Reply → Evaluation A)
    → ((x : List Reply) → f (r ∷ x) ≡ g x) → (e : Evaluation A) → Comes P answers g e → Comes P (r ∷ answers) f e
taken_comes P r answers f g same (Gives a t) (p, first) = (
  p,
  record {
    taken = r ∷ first.taken;
    split = ap (λ l. r ∷ l) first.split;
    same = λ more. same (first.taken ++ more) ∙ first.same more;
  },
)
taken_comes P r answers f g same (Stops Lost) first =
    record {
      before = r ∷ first.before;
      given = first.given;
      more = first.more;
      id = first.id;
      asked = first.asked;
      split = ap (λ l. r ∷ l) first.split;
      asks = same first.before ∙ first.asks;
      wrong = first.wrong;
    }
taken_comes P r answers f g same (Stops w) first = tt

pub taken_sound : {A : Type 0} (P : A → Type 0) (r : Reply) (answers : List Reply) (f g : List Reply → Evaluation A)
    → ((x : List Reply) → f (r ∷ x) ≡ g x) → Sound P answers g → Sound P (r ∷ answers) f
taken_sound P r answers f g same m =
    record {
      comes = subst (Comes P (r ∷ answers) f) (sym (same answers))
          (taken_comes P r answers f g same (g answers) m.comes);
    }
