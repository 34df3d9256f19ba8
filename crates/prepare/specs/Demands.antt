-- The three demands on whatever preparing gives.
use Rattle.header.specs.declared.Header.{Header}
use Rattle.segment.specs.declared.Segment.{Segment}
use Rattle.prepare.specs.Prepare.{Request, Outcome, Prepared, Refused}
use Rattle.prepare.specs.Sound.{Ready}
use Rattle.prepare.specs.Delivered.{Delivered}
use Rattle.prepare.specs.Rejected.{Rejected}

abbrev pub Demands : Request → Outcome → Type 0
Demands q (Prepared count bytes marks) = (h : Header) × (s : Segment) × Ready q h s × Delivered q h s count bytes marks
Demands q (Refused why number) = Rejected q why number
