-- A product that the router claimed is delivered, and then released.
use Rattle.router_work.proofs.Tryings.{after_delivery, claims_begun, completed, completed_answered, delivery_busy, delivery_stopped, release_busy, release_stopped}
use Rattle.router_work.proofs.router.Router.complete.Goals as goal

pub delivers-requires-clause-claimed : goal.delivers-requires-clause-claimed
delivers-requires-clause-claimed g c κs within = claims_begun c.args.self.now.pass c.args.number c.args.place c.requires.claimed

pub releases-requires-clause-delivered : goal.releases-requires-clause-delivered
releases-requires-clause-delivered g c κs within =
    let d = c.delivers.ensures in
    after_delivery c.args.self.now c.delivers.new.self c.args.number c.args.place c.requires.claimed d.goes d.hand c.is_stopped.new.self c.is_stopped.ensures.asked (d.delivered c.if-not-delivers.false)

pub returns-then-not-delivers-clause-tried : goal.returns-then-not-delivers-clause-tried
returns-then-not-delivers-clause-tried g c =
    let d = c.delivers.ensures in
    delivery_busy c.args.self.now c.delivers.new.self c.args.number c.args.place c.requires.claimed d.goes d.hand (d.held c.if-not-delivers.true)

pub returns-then-is_stopped-clause-tried : goal.returns-then-is_stopped-clause-tried
returns-then-is_stopped-clause-tried g c =
    let d = c.delivers.ensures in
    delivery_stopped c.args.self.now c.delivers.new.self c.args.number c.args.place c.requires.claimed d.goes d.hand c.is_stopped.new.self c.is_stopped.ensures.asked (c.is_stopped.ensures.stopped c.if-is_stopped.true)

pub returns-then-not-releases-clause-tried : goal.returns-then-not-releases-clause-tried
returns-then-not-releases-clause-tried g c =
    let d = c.delivers.ensures in
    let l = c.releases.ensures in
    release_busy c.args.self.now c.delivers.new.self c.args.number c.args.place c.requires.claimed d.goes d.hand c.is_stopped.new.self c.is_stopped.ensures.asked c.releases.new.self l.goes l.hand (l.held c.if-not-releases.true)

pub returns-then-is_stopped-2-clause-tried : goal.returns-then-is_stopped-2-clause-tried
returns-then-is_stopped-2-clause-tried g c =
    let d = c.delivers.ensures in
    let l = c.releases.ensures in
    release_stopped c.args.self.now c.delivers.new.self c.args.number c.args.place c.requires.claimed d.goes d.hand c.is_stopped.new.self c.is_stopped.ensures.asked c.releases.new.self l.goes l.hand
    c.is_stopped-2.new.self c.is_stopped-2.ensures.asked (c.is_stopped-2.ensures.stopped c.if-is_stopped-2.true)

pub returns-clause-tried : goal.returns-clause-tried
returns-clause-tried g c =
    let d = c.delivers.ensures in
    let l = c.releases.ensures in
    completed c.args.self.now c.delivers.new.self c.args.number c.args.place c.requires.claimed d.goes d.hand c.is_stopped.new.self c.is_stopped.ensures.asked c.releases.new.self l.goes l.hand
    c.is_stopped-2.new.self c.is_stopped-2.ensures.asked (d.turned c.if-not-delivers.false)

pub returns-clause-answered : goal.returns-clause-answered
returns-clause-answered g c = λ p look.
    let d = c.delivers.ensures in
    let l = c.releases.ensures in
    completed_answered c.args.self.now c.delivers.new.self c.args.number c.args.place c.requires.claimed d.goes d.hand c.is_stopped.new.self c.is_stopped.ensures.asked c.releases.new.self l.goes l.hand
    c.is_stopped-2.new.self c.is_stopped-2.ensures.asked p look (d.delivered c.if-not-delivers.false) (l.released c.if-not-releases.false)
