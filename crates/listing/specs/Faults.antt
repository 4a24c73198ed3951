-- What each fault of a listing tells. Assumes nothing.
use Rattle.refusals.specs.declared.Layer.TheVariants.{ProgramFirst}
use Rattle.refusals.specs.declared.Refusal.{Refusal}
use Rattle.refusals.specs.Told.{refused}
use Rattle.readers.specs.Faults.{open_refusal}
use Rattle.films.specs.Faults.{film_refusal}
use Rattle.listing.specs.declared.fault.ListingFault.{ListingFault}
use Rattle.listing.specs.declared.fault.ListingFault.TheVariants.{InputTooLong, Opened, Film}

abbrev pub listing_refusal : ListingFault → Refusal
listing_refusal InputTooLong = refused ProgramFirst 50 65536
listing_refusal (Opened fault) = open_refusal fault
listing_refusal (Film fault) = film_refusal fault
