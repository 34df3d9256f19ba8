-- Document 01's listing of P10's table, and the listings of P11's.
use Rattle.std.specs.Prelude.{◌≡◌}
use Rattle.entry.specs.Examples.{p10}
use Rattle.listing.specs.Text.{ascii}
use Rattle.listing.specs.Listing.{listing_of}

abbrev pub Examples : Type 0
Examples =
    (listing_of (p10 16) ≡ ascii "ordinals 4\n1 1:0010 01\n4 2:0020 03\nend\n")
    × (listing_of (p10 15) ≡ ascii "refused 12\n")
    × (listing_of (p10 0) ≡ ascii "ordinals 0\nend\n")
