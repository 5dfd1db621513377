-- Trips that were made, and then others.
use Rattle.std.proofs.Common.{◌≡◌, ℕ, List, [], ◌∷◌, ◌++◌, Option, Some, None, refl, ap, sym, subst, inl}
use Rattle.std.specs.Prelude.{All}
use Rattle.std.proofs.lemmas.List.{append_cancel_left}
use Rattle.std.proofs.lemmas.List.Elements.{All-append, All-head, All-nil, All-tail, All-weaker, Contains-push}
use Rattle.lsl_ports.specs.Growth.{Grew}
use Rattle.lsl_ports.specs.Trips.{CameBackSo, Honest, Trip, Went}
use Rattle.lsl_ports.proofs.Growth.{grew-none, grew-then}
use Rattle.lsl_image.specs.Images.{IsIntact}
use Rattle.lsl_world.specs.Lossy.{WasCarried, WereCarried}
use Rattle.lsl_top.specs.Laws.{CopiesAreFair, copies}
use Rattle.lsl_top.specs.Ports.{gives_by}
use Rattle.lsl_top.specs.Promise.{RunsNothing}
use Rattle.lsl_top.specs.Words.{Command, Once, Check, Replay, Lossy, Freeze, Thaw, View, Make, State}

-- a link that isn't called made no trips
pub went-none : (gives : List ℕ → Option (List ℕ) → Type 0) (told : Option (List Trip)) → Went gives told told []
went-none gives told = record { grew = grew-none told; given = All-nil (λ (t : Trip). gives t.sent t.back) }

-- what may come back in a command may come back
gives-by : (gives : List ℕ → Option (List ℕ) → Type 0) (command : Command) (sent : List ℕ) (back : Option (List ℕ))
    → gives_by command gives sent back → gives sent back
gives-by gives (Once name) sent back h = h
gives-by gives (Check name) sent back h = absurd h
gives-by gives (Replay name) sent back h = h
gives-by gives (Lossy name) sent back h = h
gives-by gives (Freeze name) sent back h = h
gives-by gives (Thaw frozen name) sent back h = h
gives-by gives (View frozen name) sent back h = absurd h
gives-by gives (Make number) sent back h = h
gives-by gives (State at name) sent back h = h

pub went-by : (gives : List ℕ → Option (List ℕ) → Type 0) (command : Command) (old new : Option (List Trip))
    (trips : List Trip) → Went (gives_by command gives) old new trips → Went gives old new trips
went-by gives command old new trips went = record {
  grew = went.grew;
  given = All-weaker (λ (t : Trip). gives_by command gives t.sent t.back) (λ (t : Trip). gives t.sent t.back)
      (λ t h. gives-by gives command t.sent t.back h) trips went.given;
}

-- a command that runs nothing makes none
pub none-by : (gives : List ℕ → Option (List ℕ) → Type 0) (command : Command) (old new : Option (List Trip))
    (trips : List Trip) → Went (gives_by command gives) old new trips → RunsNothing (Some command) → trips ≡ []
none-by gives command old new [] went runs = refl
none-by gives command old new (t ∷ trips) went runs =
    absurd (never command runs
    (All-head (λ (x : Trip). gives_by command gives x.sent x.back) t trips went.given))
  where
    never : (c : Command) → RunsNothing (Some c) → gives_by c gives t.sent t.back → ⊥
    never (Once name) runs h = runs
    never (Check name) runs h = h
    never (Replay name) runs h = runs
    never (Lossy name) runs h = runs
    never (Freeze name) runs h = runs
    never (Thaw frozen name) runs h = runs
    never (View frozen name) runs h = h
    never (Make number) runs h = runs
    never (State at name) runs h = runs

pub went-then : (gives : List ℕ → Option (List ℕ) → Type 0) (a b c : Option (List Trip)) (ts us : List Trip)
    → Went gives a b ts → Went gives b c us → Went gives a c (ts ++ us)
went-then gives a b c ts us first second = record {
  grew = grew-then a b c ts us first.grew second.grew;
  given = All-append (λ (t : Trip). gives t.sent t.back) ts us first.given second.given;
}

-- what was known before and after says which trips were made
pub went-told : (gives : List ℕ → Option (List ℕ) → Type 0) (old new : Option (List Trip)) (before ts us : List Trip)
    → old ≡ Some before → new ≡ Some (before ++ us) → Went gives old new ts → ts ≡ us
went-told gives old new before ts us told tells went =
    let grew : Grew (Some before) (Some (before ++ us)) ts =
    subst (λ (z : Option (List Trip)). Grew (Some before) z ts) tells
    (subst (λ (z : Option (List Trip)). Grew z new ts) told went.grew) in
    append_cancel_left before ts us (sym (ap value grew))
  where
    value : Option (List Trip) → List Trip
    value (Some trips) = trips
    value None = []

pub honest-none : Honest IsIntact []
honest-none = All-nil (λ (t : Trip). CameBackSo IsIntact t.sent t.back)

copied : (sent : List ℕ) (back : Option (List ℕ)) → back ≡ Some sent → CameBackSo IsIntact sent back
copied sent None e = tt
copied sent (Some back) e = inl (ap value e)
  where
    value : Option (List ℕ) → List ℕ
    value (Some bytes) = bytes
    value None = sent

pub copies-honest : (old new : Option (List Trip)) (trips : List Trip) → Went copies old new trips
    → Honest IsIntact trips
copies-honest old new trips went =
    All-weaker (λ (t : Trip). t.back ≡ Some t.sent) (λ (t : Trip). CameBackSo IsIntact t.sent t.back)
    (λ t e. copied t.sent t.back e) trips went.given

-- what was sent was handed over by then
copied-carried : (entries : List (List ℕ)) (trips : List Trip) → All (λ (t : Trip). t.back ≡ Some t.sent) trips
    → WereCarried entries trips
copied-carried entries [] given = tt
copied-carried entries (t ∷ trips) given = (
  subst (λ (back : Option (List ℕ)). WasCarried (entries ++ t.sent ∷ []) back)
      (sym (All-head (λ (x : Trip). x.back ≡ Some x.sent) t trips given)) (inl (Contains-push entries t.sent)),
  copied-carried (entries ++ t.sent ∷ []) trips (All-tail (λ (x : Trip). x.back ≡ Some x.sent) t trips given),
)

pub copies-fair : CopiesAreFair
copies-fair None old new trips went = tt
copies-fair (Some (Once name)) old new trips went = copies-honest old new trips went
copies-fair (Some (Check name)) old new trips went = copies-honest old new trips went
copies-fair (Some (Replay name)) old new trips went = copies-honest old new trips went
copies-fair (Some (Lossy name)) old new trips went = copied-carried [] trips went.given
copies-fair (Some (Freeze name)) old new trips went = copies-honest old new trips went
copies-fair (Some (Thaw frozen name)) old new trips went = copies-honest old new trips went
copies-fair (Some (View frozen name)) old new trips went = copies-honest old new trips went
copies-fair (Some (Make number)) old new trips went = copies-honest old new trips went
copies-fair (Some (State at name)) old new trips went = copies-honest old new trips went
