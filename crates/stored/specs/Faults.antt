-- What a fault of a film's set-up tells. Assumes nothing.
use Rattle.refusals.specs.declared.Layer.TheVariants.{FilmSetUp}
use Rattle.refusals.specs.declared.Refusal.{Refusal}
use Rattle.refusals.specs.Told.{refused}
use Rattle.stored.specs.declared.fault.TotalsFault.{TotalsFault}
use Rattle.stored.specs.declared.fault.TotalsFault.TheVariants.{Count, Entry}

abbrev pub totals_refusal : TotalsFault → Refusal
totals_refusal (Count given) = refused FilmSetUp 28 given
totals_refusal (Entry place) = refused FilmSetUp 28 place
