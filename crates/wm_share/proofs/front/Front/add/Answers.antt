use Rattle.std.proofs.Common.{◌≡◌, ◌<◌, sym, ◌∙◌, ap, subst, length}
use Rattle.wm_share.specs.Logs.{max_shares, operations_of}
use Rattle.wm_share.proofs.Adding.{adds_moves}
use Rattle.wm_share.proofs.front.Front.add.Goals as goal

pub compare_exchange-found-requires : goal.compare_exchange-found-requires
compare_exchange-found-requires g c =
    let h = c.args.head.now.word_is in
    let offer = c.plain-offer.ensures in
    let pen = c.no_pen-pen.ensures in
    let k = c.args.head.now.number in
    let log = c.self.inside.seen.log in
    let n : k ≡ c.self.inside.share.number = c.requires.share.0 ∙ sym (ap (λ l. l.share.number) c.self.view_is) in
    let less : k < max_shares = subst (λ m. m < max_shares) (sym n) c.self.invariant.2 in
    let long : length (operations_of k log) ≡ c.self.inside.count = ap (λ m. length (operations_of m log)) n ∙ sym c.self.invariant.0 in (
      ap (λ w. w.tracked) h,
      c.self.invariant.1 ∙ sym (ap (λ w. w.book) h),
      pen.0 ∙ (c.self.invariant.1 ∙ sym (ap (λ w. w.book) h)),
      offer.0,
      rw (ap (λ w. w.key) h, pen.1, offer.1, offer.3) (adds_moves log c.args.entry.now k c.self.inside.count less (c.requires.share.1 ∙ sym c.requires.share.0) long),
    )
