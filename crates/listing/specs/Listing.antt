-- Which rows the listing of an input has. Assumes nothing.
use Rattle.std.specs.Prelude.{ℕ, cond, List, [], ◌∷◌, length, Some, None, Ok, Err, sum, Option, Result, nat_lt}
use Rattle.readers.specs.declared.fault.OpenFault.{OpenFault}
use Rattle.ivf.specs.Ivf.{ivf_open_fault, ivf_reading}
use Rattle.films.specs.declared.fault.FilmFault.{FilmFault}
use Rattle.films.specs.Film.{film_result}
use Rattle.listing.specs.declared.fault.ListingFault.{ListingFault}
use Rattle.listing.specs.declared.fault.ListingFault.TheVariants.{InputTooLong, Opened, Film}
use Rattle.listing.specs.declared.row.Row.{Row}
use Rattle.listing.specs.declared.row.Row.TheVariants as rows
use Rattle.listing.specs.Faults.{listing_refusal}

-- a film by its slots and the bytes of all its sizes
abbrev pub of_film : Result ℕ FilmFault → List ℕ → Result Row ListingFault
of_film (Ok slots) sizes = Ok (rows.Film slots (sum sizes))
of_film (Err e) sizes = Err (Film e)

-- the frames after the header, with 1,025 totals, where a reader is opened
abbrev pub of_opened : Option OpenFault → List ℕ → Result Row ListingFault
of_opened (Some e) input = Err (Opened e)
of_opened None input = of_film (film_result (ivf_reading input 32) 1025) (ivf_reading input 32).sizes

abbrev pub film_row : List ℕ → Result Row ListingFault
film_row input = cond (nat_lt 65536 (length input)) (Err InputTooLong) (of_opened (ivf_open_fault input) input)

-- the row of what refuses a listing
abbrev pub fault_row : ListingFault → Row
fault_row fault = rows.Refused (listing_refusal fault).number (listing_refusal fault).place

abbrev pub told_row : Result Row ListingFault → Row
told_row (Ok row) = row
told_row (Err fault) = fault_row fault

-- the header, and then the film or what refused it
abbrev pub rows_of : List ℕ → List Row
rows_of input = rows.Header ∷ told_row (film_row input) ∷ []
