-- What making a film answers, and what the memory then holds. Assumes nothing.
use Rattle.std.specs.Prelude.{◌≡◌, ℕ, ◌+◌, ◌-◌, min, cond, List, ◌++◌, length, drop, replicate, Ok, Err, Result, ◌==◌, nat_lt}
use Rattle.readers.specs.Reading.{Reading, Ending, plain, fault}
use Rattle.totals.specs.Totals.{totals_of}
use Rattle.films.specs.declared.fault.FilmFault.{FilmFault}
use Rattle.films.specs.declared.fault.FilmFault.TheVariants.{NoMemory, Record, TooManyFrames, NoEntryLeft, NoFrame}

-- at the reader's ending, after so many frames
abbrev pub at_film_end : Ending → ℕ → Result ℕ FilmFault
at_film_end (fault e) frames = Err (Record e frames)
at_film_end plain frames = cond (frames == 0) (Err NoFrame) (Ok frames)

-- the most frames that memory of so many entries takes
abbrev pub most_frames : ℕ → ℕ
most_frames room = min 65535 (room - 1)

-- what refuses one frame more than that
abbrev pub overfull : ℕ → FilmFault
overfull room = cond (nat_lt room 65536) (NoEntryLeft (room - 1)) (TooManyFrames 65535)

-- the frames of the film, or what refuses it
abbrev pub film_result : Reading → (room : ℕ) → Result ℕ FilmFault
film_result r room =
    cond (room == 0) (Err NoMemory)
    (cond (nat_lt (most_frames room) (length r.sizes)) (Err (overfull room))
    (at_film_end r.ending (length r.sizes)))

-- the memory afterwards: the totals L(0) to L(N) and then zeros, or zeros alone
abbrev pub film_memory : Result ℕ FilmFault → List ℕ → (room : ℕ) → List ℕ
film_memory (Ok frames) sizes room = totals_of sizes ++ replicate (room - (frames + 1)) 0
film_memory (Err e) sizes room = replicate room 0

-- n records were taken from a reader, or all that it had: what it has left, and that it ends as it did
pub record Taken (n : ℕ) (before after : Reading) : Type 0 where
  pub left : after.sizes ≡ drop n before.sizes
  pub ending : after.ending ≡ before.ending
