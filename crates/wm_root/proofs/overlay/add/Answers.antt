use Rattle.std.proofs.Common.{◌≡◌, Some, IsSome, cond, sym, ap, ◌∙◌, subst}
use Rattle.std.specs.Cmp.Lexicographic.{nat_list_cmp_total}
use Rattle.std.specs.FinMap.Entries.{find-put}
use Rattle.wm_names.specs.Entries.{covers}
use Rattle.wm_names.specs.Paths.{Path, path_cmp, same_path}
use Rattle.wm_view.specs.Files.{at}
use Rattle.wm_view.specs.Listings.{Found, AddRefused}
use Rattle.wm_root.proofs.Turns.{outside, there, came}
use Rattle.wm_root.proofs.overlay.add.Goals as goal

pub returns-in-Ok-clause-files : goal.returns-in-Ok-clause-files
returns-in-Ok-clause-files c = λ p within.
    let files = c.args.listing.now.files in
    came (at files) (at c.add.new.self.files p) c.args.path.now p c.args.meta
    (ap (at files) (sym c.in_ok-path.ensures) ∙ c.in-Ok.ensures.ok.1)
    (ap (λ (l : Found). at l.files p) c.in-Ok.ensures.ok.2
    ∙ find-put path_cmp nat_list_cmp_total p c.in_ok-path.path c.args.meta files
    ∙ ap (λ q. cond (same_path p q) (Some c.args.meta) (at files p)) c.in_ok-path.ensures)

pub returns-in-Err-BadPath-clause-files : goal.returns-in-Err-BadPath-clause-files
returns-in-Err-BadPath-clause-files c = λ p within.
    ap (λ (l : Found). at l.files p) c.in-Err-BadPath.ensures.same
    ∙ outside (covers c.args.listing.now.subtree) (at c.args.listing.now.files p) c.args.path.now p c.args.meta
    (ap (covers c.args.listing.now.subtree) (sym c.in_ok-path.ensures) ∙ subst (AddRefused c.args.listing.now c.in_ok-path.path) c.in-Err-BadPath.field-0-is c.in-Err-BadPath.ensures.refused)
    within

pub returns-in-Err-BadArguments-clause-files : goal.returns-in-Err-BadArguments-clause-files
returns-in-Err-BadArguments-clause-files c = λ p within.
    ap (λ (l : Found). at l.files p) c.in-Err-BadArguments.ensures.same
    ∙ there (at c.args.listing.now.files) c.args.path.now p c.args.meta
    (subst (λ q. IsSome (at c.args.listing.now.files q)) c.in_ok-path.ensures (subst (AddRefused c.args.listing.now c.in_ok-path.path) c.in-Err-BadArguments.field-0-is c.in-Err-BadArguments.ensures.refused).1)
