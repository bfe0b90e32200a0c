-- Why a front's start is refused.
use Rattle.std.proofs.Common.{◌≡◌, ◌⊎◌, ◌≤◌, ℕ, List, true, false, cond, refl, sym, ap, ◌∙◌, subst, ⊎_elim, inl, inr}
use Rattle.std.specs.Prelude.{nat_lt}
use Rattle.wm_disk.specs.Contents.{Rose}
use Rattle.wm_disk.specs.declared.disk.Disk.{Ghosts}
use Rattle.wm_disk.specs.declared.refusal.Refusal.{Refusal}
use Rattle.wm_disk.specs.declared.refusal.Refusal.TheVariants as refusals
use Rattle.wm_disk.specs.Counters.{max_counter}
use Rattle.wm_registry.specs.declared.command.Command.TheVariants.{Begin}
use Rattle.wm_registry.specs.declared.reply.Reply.TheVariants.{Changed, Refused}
use Rattle.wm_registry.specs.Roots as registry
use Rattle.wm_registry.specs.Registry.{after_command, changed, is_change, reply_to}
use Rattle.wm_store.specs.Openings.{IsBegun, FindsRegistry, WritesNothing}
use Rattle.wm_store.specs.Stored.{Stored}
use Rattle.wm_lines.specs.KeptExpressions.{have_expressions}
use Rattle.wm_session.specs.local.Stores.{StartRefused}
use Rattle.wm_store.specs.Meant.{IsDamagedFile, IsRetiredFile, MeansRegistry}
use Rattle.wm_store.specs.laws.Retired.{not_retired}

-- a start changes no trigger
expressions_after_begin : (s : registry.State) → have_expressions (after_command s Begin) ≡ have_expressions s
expressions_after_begin s =
    elim (nat_lt s.incarnation max_counter) as (λ b. have_expressions (cond (is_change (cond b Changed (Refused refusals.Exhausted))) (changed s Begin) s) ≡ have_expressions s) [
      | true ↦ refl
      | false ↦ refl
    ]

module _ {D : Type 0} (disk : Ghosts D) (old new : D) (cut : disk.honest new → WritesNothing disk old new ⊎ ((found : registry.State) × FindsRegistry disk old new found)) where
  -- where the file means nothing, no registry was found
  nothing_found : disk.honest new → ((found : registry.State) → MeansRegistry found (disk.seen old) → ⊥) → WritesNothing disk old new
  nothing_found h none = ⊎_elim (λ nothing. nothing) (λ f. absurd (none f.0 f.1.means)) (cut h)

  no_meaning : disk.honest new → IsDamagedFile (disk.seen old) → IsDamagedFile (disk.seen old) × WritesNothing disk old new
  no_meaning h damaged = (damaged, nothing_found h (λ found. (damaged found.version).0 found))

  no_more : disk.honest new → IsRetiredFile (disk.seen old) → IsRetiredFile (disk.seen old) × WritesNothing disk old new
  no_more h retired = (retired, nothing_found h (λ found m. not_retired found (disk.seen old) m retired))

pub start_refused : {D : Type 0} (disk : Ghosts D) (old new : D) (e : Refusal)
    → (disk.honest new → WritesNothing disk old new ⊎ ((found : registry.State) × FindsRegistry disk old new found))
    → (disk.honest new → e ≡ refusals.Damaged → IsDamagedFile (disk.seen old)) → (disk.honest new → e ≡ refusals.Retired → IsRetiredFile (disk.seen old))
    → (disk.honest new → e ≡ refusals.Exhausted → (found : registry.State) × (m : MeansRegistry found (disk.seen old)) × ((reply_to found Begin ≡ Refused refusals.Exhausted) ⊎ (max_counter ≤ m.number)))
    → (disk.honest new → e ≡ refusals.Exhausted → (found : registry.State) × MeansRegistry found (disk.seen old) × ((c : List ℕ) → disk.may_leave new c → MeansRegistry found c))
    → (e ≡ refusals.DeviceFailed → Rose (disk.failures old) (disk.failures new))
    → (e ≡ refusals.DeviceFailed) ⊎ (e ≡ refusals.NoMemory) ⊎ (e ≡ refusals.Exhausted) ⊎ (e ≡ refusals.Damaged) ⊎ (e ≡ refusals.Retired)
    → StartRefused disk e old new
start_refused disk old new e cut damaged retired exhausted stands failed kinds =
    elim kinds [
      | inl device ↦ subst (λ (x : Refusal). StartRefused disk x old new) (sym device) (failed device)
      | inr a ↦ elim a [
        | inl memory ↦ subst (λ (x : Refusal). StartRefused disk x old new) (sym memory) tt
        | inr b ↦ elim b [
          | inl spent ↦ subst (λ (x : Refusal). StartRefused disk x old new) (sym spent) (λ h. (exhausted h spent, stands h spent))
          | inr c ↦ elim c [
            | inl bad ↦ subst (λ (x : Refusal). StartRefused disk x old new) (sym bad) (λ h. inl (no_meaning disk old new cut h (damaged h bad)))
            | inr gone ↦ subst (λ (x : Refusal). StartRefused disk x old new) (sym gone) (λ h. no_more disk old new cut h (retired h gone))
          ]
        ]
      ]
    ]

-- after a store was begun: a trigger keeps a text that is no expression, or memory is wanted
pub expressions_refused : {D : Type 0} (disk : Ghosts D) (old : D) (store : Stored D) (e : Refusal) → (disk.honest store.disk → IsBegun disk old store)
    → ((e ≡ refusals.Damaged) × (have_expressions store.registry ≡ false)) ⊎ (e ≡ refusals.NoMemory)
    → StartRefused disk e old store.disk
expressions_refused disk old store e begun why =
    elim why [
      | inl none ↦ subst (λ (x : Refusal). StartRefused disk x old store.disk) (sym none.0)
          (λ h. (let b = begun h in inr (b.found, sym (expressions_after_begin b.found) ∙ ap have_expressions (sym b.registry) ∙ none.1, b.opened)))
      | inr memory ↦ subst (λ (x : Refusal). StartRefused disk x old store.disk) (sym memory) tt
    ]
