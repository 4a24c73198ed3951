-- What the private functions of film making answer; no public contract cites these. Assumes nothing.
use Rattle.std.specs.Prelude.{ℕ, ◌+◌, ◌-◌, cond, List, ◌++◌, length, take, replicate, Some, None, Ok, Err, Option, Result, nat_lt}
use Rattle.readers.specs.declared.fault.RecordFault.{RecordFault}
use Rattle.films.specs.declared.fault.FilmFault.{FilmFault}
use Rattle.films.specs.declared.fault.FilmFault.TheVariants.{Record, TooManyFrames}

-- what a film of so many frames makes of what its reader tells next
abbrev pub film_next : Result (Option ℕ) RecordFault → ℕ → Result (Option ℕ) FilmFault
film_next (Err e) frames = Err (Record e frames)
film_next (Ok None) frames = Ok None
film_next (Ok (Some size)) frames = cond (nat_lt frames 65535) (Ok (Some size)) (Err (TooManyFrames frames))

-- the entries of a film, and zeros after them
abbrev pub kept_totals : Result ℕ FilmFault → List ℕ → List ℕ
kept_totals (Ok frames) memory = take (frames + 1) memory ++ replicate (length memory - (frames + 1)) 0
kept_totals (Err e) memory = replicate (length memory) 0
