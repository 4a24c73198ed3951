-- What each fault of a film tells. A record's fault tells what the reader told. Assumes nothing.
use Rattle.refusals.specs.declared.Layer.TheVariants.{Film, FilmEachRecord, FilmAtEnd}
use Rattle.refusals.specs.declared.Refusal.{Refusal}
use Rattle.refusals.specs.Told.{refused}
use Rattle.readers.specs.Faults.{record_refusal}
use Rattle.films.specs.declared.fault.FilmFault.{FilmFault}
use Rattle.films.specs.declared.fault.FilmFault.TheVariants.{NoMemory, Record, TooManyFrames, NoEntryLeft, NoFrame}

abbrev pub film_refusal : FilmFault → Refusal
film_refusal NoMemory = refused Film 22 0
film_refusal (Record fault frames) = record_refusal fault
film_refusal (TooManyFrames frames) = refused FilmEachRecord 21 frames
film_refusal (NoEntryLeft frames) = refused FilmEachRecord 22 frames
film_refusal NoFrame = refused FilmAtEnd 20 0
