-- Comparisons with published counts. Assumes nothing.
--     published_for p k     the published count for the kind k
--     agreed c              as many were listed as are published
use Rattle.std.specs.Prelude.{ℕ, Bool, ◌==◌}
use Rattle.lattice.specs.declared.kind.Kind.{Kind}
use Rattle.lattice.specs.declared.kind.Kind.TheVariants.{Fixed, OneSided, Free}
use Rattle.counts.specs.declared.published.Comparison.{Comparison}
use Rattle.counts.specs.declared.published.Published.{Published}

abbrev pub published_for : Published → Kind → ℕ
published_for p Fixed = p.fixed
published_for p OneSided = p.one_sided
published_for p Free = p.free

abbrev pub agreed : Comparison → Bool
agreed c = c.listed == c.published
