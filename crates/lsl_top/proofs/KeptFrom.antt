-- What is kept to with the texts that were read is kept to from each world that can have been frozen.
use Rattle.std.proofs.Common.{ℕ, List, Option, Some, None, inl, inr}
use Rattle.lsl_ports.specs.Shelf.{Files}
use Rattle.lsl_ports.specs.Trips.{Trip}
use Rattle.lsl_region.specs.Worlds.{World}
use Rattle.lsl_top.specs.Answers.{Answers, Plays, PlaysRead, ReplaysFile}
use Rattle.lsl_top.specs.Froms.{IsFromFile, IsFromOf, IsFromPlay}
use Rattle.lsl_top.specs.Laws.{KeptFromEach}
use Rattle.lsl_top.specs.Plays.{Mode, Whole, Handing, Freezing, Inspecting, Thawing, Viewing, Play, file_in, play_of, play_of_once}
use Rattle.lsl_top.specs.Promise.{KeepsFile, KeepsOf, KeepsPlay, KeepsTo, RefusesWorld}
use Rattle.lsl_top.specs.Words.{Command, Once, Check, Replay, Lossy, Freeze, Thaw, Make, View, State}
use Rattle.lsl_top.specs.declared.status.Status.{Status}
use Rattle.lsl_top.proofs.Finishing.{keeps-as}

module _ (held : Option Files) (trips : List Trip) where
  pub keeps_play-from : (play : Play) (status : Status) (old new : Option (List ℕ)) (from : World)
      → KeepsPlay held trips play status old new → IsFromPlay held play from
      → KeepsTo (λ grade. Plays grade held from trips play) status trips old new
  keeps_play-from play status old new from (inl k) fits =
      keeps-as (λ grade answer. ⊥) (λ grade. Plays grade held from trips play) status trips old new
      (λ grade answer never. absurd never) k
  keeps_play-from play status old new from (inr (read, are, keeps)) fits =
      keeps-as (λ grade. PlaysRead grade from trips play read) (λ grade. Plays grade held from trips play) status trips
      old new (λ grade answer h. (read, are, h)) (keeps from (fits read are))

  pub keeps_file-from : (mode : Mode) (name : List ℕ) (status : Status) (old new : Option (List ℕ)) (from : World)
      → KeepsFile held trips mode name status old new → IsFromFile held mode name from
      → KeepsTo (λ grade. ReplaysFile grade held from trips mode name) status trips old new
  keeps_file-from mode name status old new from (inl k) fits =
      keeps-as (λ grade. RefusesWorld held name) (λ grade. ReplaysFile grade held from trips mode name) status trips
      old new (λ grade answer h. (h.0, h.2, inr (h.1, h.3, h.4))) k
  keeps_file-from mode name status old new from (inr (bytes, file, is, good, k)) fits =
      keeps-as (λ grade. Plays grade held from trips (play_of mode (file_in mode file)))
      (λ grade. ReplaysFile grade held from trips mode name) status trips old new
      (λ grade answer h. (bytes, is, inl (file, good, h)))
      (keeps_play-from (play_of mode (file_in mode file)) status old new from k (fits bytes file is good))

  pub keeps_of-from : (command : Command) (status : Status) (old new : Option (List ℕ)) (from : World)
      → KeepsOf held trips command status old new → IsFromOf held command from
      → KeepsTo (λ grade. Answers grade held from trips command) status trips old new
  keeps_of-from (Once name) status old new from k fits =
      keeps_play-from (play_of_once name) status old new from k
      (λ read are programs codes all has cards noted. tt)
  keeps_of-from (Check name) status old new from k fits = k
  keeps_of-from (Replay name) status old new from k fits = keeps_file-from Whole name status old new from k fits
  keeps_of-from (Lossy name) status old new from k fits = keeps_file-from Handing name status old new from k fits
  keeps_of-from (Freeze name) status old new from k fits = keeps_file-from Freezing name status old new from k fits
  keeps_of-from (Thaw frozen name) status old new from k fits =
      keeps_file-from (Thawing frozen) name status old new from k fits
  keeps_of-from (View frozen name) status old new from k fits =
      keeps_file-from (Viewing frozen) name status old new from k fits
  keeps_of-from (Make number) status old new from k fits = k from
  keeps_of-from (State at name) status old new from k fits =
      keeps_file-from (Inspecting at) name status old new from k fits

pub kept-from : KeptFromEach
kept-from held trips None status old new k from fits = tt
kept-from held trips (Some command) status old new k from fits =
    keeps_of-from held trips command status old new from k fits
