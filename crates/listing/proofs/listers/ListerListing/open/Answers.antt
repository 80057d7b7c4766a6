use Rattle.std.proofs.Common.{◌≡◌, [], Ok, Result, sym, refl, subst}
use Rattle.lattice.specs.declared.refusal.Refusal.{Refusal}
use Rattle.lattice.specs.Kinds.{set_motions}
use Rattle.walk.specs.Searches.{left}
use Rattle.listing.specs.declared.lister.Lister.{Lister}
use Rattle.listing.specs.Openings.{Opening, Opened}
use Rattle.sources.specs.Sources.{standing}
use Rattle.listing.specs.Made.{listing}
use Rattle.listing.specs.Listers.{stands_of, OpenedBy}
use Rattle.listing.proofs.Searched.{opened_fresh, opening_made}
use Rattle.listing.proofs.listers.ListerListing.open.Goals as goal

pub returns : goal.returns
returns g c =
    let l = c.args.lattice in
    let L = g.L.Lattice in
    let search = c.in_ok-search.search in
    let set = c.in_ok-set.set in
    let s : Lister g.row.L.Denot = record { lattice = l; set = set; search = search; last = c.pick_list-last.result } in
    let r : Result (Lister g.row.L.Denot) Refusal = Ok s in
    let P : Lister g.row.L.Denot → Opening → Type 0 = λ t o. OpenedBy L.directions L.motions t o × (stands_of L.motions t ≡ standing [] (listing o)) in
    let made = opening_made (L.directions l) (L.motions l) (L.onesided l) c.args.size c.args.kind (left search) (set_motions set) c.in_ok-search.ensures.value c.in_ok-set.ensures.value in
    subst (λ x. Opened x r P) (sym made) (opened_fresh L.motions L.directions s c.args.size (set_motions set) c.in_ok-search.ensures.fresh refl (c.in_ok-set.ensures.closed set refl) c.pick_list-last.ensures)
