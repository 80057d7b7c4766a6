use Rattle.std.proofs.Common.{◌≡◌, ℕ, ◌≤◌, List, Ok, Result, vec_items, subst}
use Rattle.shapes.specs.Classes.{ClassLaws}
use Rattle.listing.specs.declared.calls.Answer.{Answer}
use Rattle.listing.specs.declared.calls.Call.{Call}
use Rattle.listing.specs.Made.{listing}
use Rattle.listing.specs.Openings.{Opening, opening_for}
use Rattle.listing.specs.Runs.{Right, RightRun, ListedRun}
use Rattle.sources.specs.Sources.{ahead}
use Rattle.listing.proofs.Made.{listing_lists}
use Rattle.listing.proofs.OneList.{the_list}
use Rattle.listing.proofs.Opening.{opened_by, opening_laws}
use Rattle.listing.proofs.Transcripts.{no_nexts}
use Rattle.listing.proofs.runs.transcribe.Goals as goal

pub returns-in_err-lister-clause-sieves : goal.returns-in_err-lister-clause-sieves
returns-in_err-lister-clause-sieves g c = no_nexts (ahead (g.P.Source.stands c.args.pile.now)) c.args.nexts (vec_items c.clear-2.new.self) c.clear-2.ensures.items

pub returns-in_err-make_calls-clause-sieves : goal.returns-in_err-make_calls-clause-sieves
returns-in_err-make_calls-clause-sieves g c = no_nexts (ahead (g.P.Source.stands c.args.pile.now)) c.args.nexts (vec_items c.clear-2.new.self) c.clear-2.ensures.items

-- a run that is right for the listing is right for the one list of all classes
listed : (x : Result Opening ℕ) (o p : Opening) → x ≡ Ok o → x ≡ Ok p → ClassLaws o.directions o.motions o.set → 1 ≤ o.size → (calls : List Call) (answers : List Answer) → RightRun (Right o (listing o)) (listing o) calls answers → ListedRun p calls answers
listed x o p h q k n calls answers r =
    let same : o ≡ p = cc in
    subst (λ (y : Opening). ListedRun y calls answers) same (record { list = listing o; the_list = the_list o k (listing o) (listing_lists o n k); right = r })

pub returns-in_err-make_calls-clause-lister : goal.returns-in_err-make_calls-clause-lister
returns-in_err-make_calls-clause-lister g c p q =
    let l = c.args.lattice in
    let L = g.L.Lattice in
    let x = opening_for (L.directions l) (L.motions l) (L.onesided l) c.args.size c.args.kind in
    let (o, h, fresh) = opened_by x c.in_ok-lister.lister _ c.in_ok-lister.ensures in
    let (laws, some) = opening_laws (L.letters l) (L.directions l) (L.motions l) (L.onesided l) (L.rules l) c.args.size c.args.kind o h in
    listed x o p h q laws some c.args.calls.now (vec_items c.make_calls.new.answers) (c.make_calls.ensures.right o fresh.0 fresh.1 laws some)

pub returns-clause-lister : goal.returns-clause-lister
returns-clause-lister g c p q =
    let l = c.args.lattice in
    let L = g.L.Lattice in
    let x = opening_for (L.directions l) (L.motions l) (L.onesided l) c.args.size c.args.kind in
    let (o, h, fresh) = opened_by x c.in_ok-lister.lister _ c.in_ok-lister.ensures in
    let (laws, some) = opening_laws (L.letters l) (L.directions l) (L.motions l) (L.onesided l) (L.rules l) c.args.size c.args.kind o h in
    listed x o p h q laws some c.args.calls.now (vec_items c.make_calls.new.answers) (c.make_calls.ensures.right o fresh.0 fresh.1 laws some)
