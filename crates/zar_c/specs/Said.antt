-- What a call answers: its status, and 0 in each field that has nothing to tell.
use Rattle.std.specs.Prelude.{ℕ, true, false, Option, Some, None, if◌then◌else◌}
use Rattle.zar_c.specs.declared.said.ZarSaid.{ZarSaid}
use Rattle.zar_c.specs.declared.statuses.TheConstants.{DONE, TEXT_REFUSED, MASS_REFUSED}

-- the place in the text, where one is told
abbrev pub place_of : ZarSaid → Option ℕ
place_of s = if s.has_place then Some s.place else None

-- a status, and nothing besides
abbrev pub bare : ℕ → ZarSaid
bare status = record { status = status; code = 0; has_place = false; place = 0; length = 0 }

-- it is done, and the lines are so long
abbrev pub done : ℕ → ZarSaid
done long = record (bare DONE) { length = long }

-- a text is refused with a code, at a place where it has one
abbrev pub text_refused : ℕ → Option ℕ → ZarSaid
text_refused code None = record (bare TEXT_REFUSED) { code = code }
text_refused code (Some at) = record (bare TEXT_REFUSED) { code = code; has_place = true; place = at }

-- masses are refused with a code
abbrev pub mass_refused : ℕ → ZarSaid
mass_refused code = record (bare MASS_REFUSED) { code = code }
