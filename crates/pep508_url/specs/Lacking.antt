-- Which errors are lack of memory.
use Rattle.std.specs.Prelude.{Bool, true, false}
use Rattle.url.specs.declared.error.ParseError.{ParseError}
use Rattle.url.specs.declared.error.ParseError.TheVariants.{OutOfMemory, Overflow}
use Rattle.pep508_url.specs.declared.url_error.VerbatimUrlError.{VerbatimUrlError}
use Rattle.pep508_url.specs.declared.url_error.VerbatimUrlError.TheVariants.{Memory}

-- the crate `url` found no memory, or the URL came to 4 GB
abbrev pub lacks_room : ParseError → Bool
lacks_room OutOfMemory = true
lacks_room Overflow = true
lacks_room error = false

abbrev pub lacks_memory : VerbatimUrlError → Bool
lacks_memory Memory = true
lacks_memory error = false
