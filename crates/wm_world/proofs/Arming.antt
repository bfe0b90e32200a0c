-- Planned failures of the disk in use and of the one beside it.
use Rattle.std.proofs.Common.{◌≡◌, ℕ, ◌≤◌, Option, refl, sym, ap, subst, ◌∙◌}
use Rattle.wm_disk.specs.declared.disk.Disk as disks
use Rattle.wm_disk.specs.Contents.{NoMore}
use Rattle.wm_store.specs.Stored.{Stored}
use Rattle.wm_world.specs.declared.world.World.{World as Running}
use Rattle.wm_world.specs.declared.other.Other.{Other}
use Rattle.wm_world.specs.declared.world.Server.TheVariants.{Up, Down}
use Rattle.wm_world.specs.Worlds.{World, registry}
use Rattle.wm_world.specs.Refinement.{AreHonest, Disks, IsDown, IsOn, IsServer, IsUp, OtherIs, Simulates, disks_of_server, disks_of_world}
use Rattle.wm_world.specs.Passes.{Armed, IsArmed, OnOther, OtherArmed}
use Rattle.wm_world.proofs.Others.{FailsNoMore, LeavesNoMore, beside_later, none_later, on_other_weaker, prefix_later}

module _ {D : Type 0} (disk : disks.Ghosts D) (plan : D → Option ℕ) where
  -- ---- a plan for the disk beside

  -- what a crash may leave of the disk beside is no more
  other_on : (d : D) (other later : Other D) (w : World) → LeavesNoMore disk other later → FailsNoMore disk other later → IsOn disk (record { used = d; other = other }) w → IsOn disk (record { used = d; other = later }) w
  other_on d other later w less counts on = record { prefix = λ c left. prefix_later disk other later w c less (on.prefix c left); faults = on.faults; beside = beside_later disk other later w less counts on.beside }

  module _ (old new : Running D) (d : D) (other later : Other D) (was : disks_of_world disk old ≡ record { used = d; other = other }) (is : disks_of_world disk new ≡ record { used = d; other = later }) (shown : new.shown ≡ old.shown)
      (stays : (w : World) → LeavesNoMore disk other later → IsServer disk old.server old.shown.views.items w → IsServer disk new.server old.shown.views.items w) where
    other_armed : (calls : ℕ) → (OtherIs disk.honest later → OtherIs disk.honest other) → (OtherIs disk.honest later → OnOther (IsArmed disk plan calls) other later) → FailsNoMore disk other later → Simulates disk (λ w v. v ≡ w) (OtherArmed disk plan calls) old new
    other_armed calls honest armed counts = record {
      honest = λ h. let k = subst (AreHonest disk) is h in subst (AreHonest disk) (sym was) (k.0, honest k.1);
      alone = λ e. ap (λ (x : Disks D). x.other) is ∙ none_later disk (λ d e. disk.failures e ≡ disk.failures d) other later counts (sym (ap (λ (x : Disks D). x.other) was) ∙ e);
      goes = λ h w reached s.
          let plans : OnOther (IsArmed disk plan calls) other later = armed (subst (AreHonest disk) is h).1 in
          let less : LeavesNoMore disk other later = on_other_weaker (IsArmed disk plan calls) (λ x y. NoMore (disk.may_leave x) (disk.may_leave y)) (λ x y g. g.1) other later plans in (
            w,
            refl,
            record {
              server = subst (λ x. IsServer disk new.server x.views.items w) (sym shown) (stays w less s.server);
              replies = ap (λ x. x.replies.items) shown ∙ s.replies;
              clients = ap (λ x. x.clients.items) shown ∙ s.clients;
            },
            subst (λ x. OtherArmed disk plan calls x w (disks_of_world disk new) w) (sym was) (subst (λ x. OtherArmed disk plan calls (record { used = d; other = other }) w x w) (sym is) (refl, plans)),
          );
    }

  module _ (old new : Running D) (other later : Other D) (calls : ℕ) (shown : new.shown ≡ old.shown) (honest : OtherIs disk.honest later → OtherIs disk.honest other) (armed : OtherIs disk.honest later → OnOther (IsArmed disk plan calls) other later)
      (counts : FailsNoMore disk other later) where
    pub other_armed_up : (store : Stored D) → old.server ≡ Up store other → new.server ≡ Up store later → Simulates disk (λ w v. v ≡ w) (OtherArmed disk plan calls) old new
    other_armed_up store was is = other_armed old new store.disk other later (ap (disks_of_server disk) was) (ap (disks_of_server disk) is) shown stays calls honest armed counts
      where
        stays : (w : World) → LeavesNoMore disk other later → IsServer disk old.server old.shown.views.items w → IsServer disk new.server old.shown.views.items w
        stays w less s =
            let up : IsUp disk store other old.shown.views.items w = subst (λ x. IsServer disk x old.shown.views.items w) was s in
            subst (λ x. IsServer disk x old.shown.views.items w) (sym is) (record { up = up.up; whole = up.whole; open_yet = up.open_yet; registry_is = up.registry_is; number = up.number; on = other_on store.disk other later w less counts up.on; views_are = up.views_are })

    pub other_armed_down : (d : D) → old.server ≡ Down d other → new.server ≡ Down d later → Simulates disk (λ w v. v ≡ w) (OtherArmed disk plan calls) old new
    other_armed_down d was is = other_armed old new d other later (ap (disks_of_server disk) was) (ap (disks_of_server disk) is) shown stays calls honest armed counts
      where
        stays : (w : World) → LeavesNoMore disk other later → IsServer disk old.server old.shown.views.items w → IsServer disk new.server old.shown.views.items w
        stays w less s =
            let down : IsDown disk d other old.shown.views.items w = subst (λ x. IsServer disk x old.shown.views.items w) was s in
            subst (λ x. IsServer disk x old.shown.views.items w) (sym is) (record { down = down.down; none = down.none; on = other_on d other later w less counts down.on })

  -- ---- a plan for the disk in use

  module _ (old new : Running D) (d e : D) (other : Other D) (calls : ℕ) (was : disks_of_world disk old ≡ record { used = d; other = other }) (is : disks_of_world disk new ≡ record { used = e; other = other }) (shown : new.shown ≡ old.shown)
      (honest : disk.honest e → disk.honest d) (armed : disk.honest e → IsArmed disk plan calls d e) (count : disk.failures e ≡ disk.failures d)
      (stays : (w : World) → NoMore (disk.may_leave d) (disk.may_leave e) → IsServer disk old.server old.shown.views.items w → IsServer disk new.server old.shown.views.items w) where
    used_armed : Simulates disk (λ w v. v ≡ w) (Armed disk plan calls) old new
    used_armed = record {
      honest = λ h. let k = subst (AreHonest disk) is h in subst (AreHonest disk) (sym was) (honest k.0, k.1);
      alone = λ none. ap (λ (x : Disks D). x.other) is ∙ sym (ap (λ (x : Disks D). x.other) was) ∙ none;
      goes = λ h w reached s.
          let plans : IsArmed disk plan calls d e = armed (subst (AreHonest disk) is h).0 in (
            w,
            refl,
            record {
              server = subst (λ x. IsServer disk new.server x.views.items w) (sym shown) (stays w plans.1 s.server);
              replies = ap (λ x. x.replies.items) shown ∙ s.replies;
              clients = ap (λ x. x.clients.items) shown ∙ s.clients;
            },
            subst (λ x. Armed disk plan calls x w (disks_of_world disk new) w) (sym was) (subst (λ x. Armed disk plan calls (record { used = d; other = other }) w x w) (sym is) (plans, refl)),
          );
    }

  -- what a crash may leave of the disk in use is no more
  used_on : (d e : D) (other : Other D) (w : World) → NoMore (disk.may_leave d) (disk.may_leave e) → disk.failures e ≡ disk.failures d → IsOn disk (record { used = d; other = other }) w → IsOn disk (record { used = e; other = other }) w
  used_on d e other w less count on = record { prefix = λ c left. on.prefix c (less c left); faults = count ∙ on.faults; beside = on.beside }

  module _ (old new : Running D) (other : Other D) (calls : ℕ) (shown : new.shown ≡ old.shown) where
    pub used_armed_up : (store later : Stored D) → old.server ≡ Up store other → new.server ≡ Up later other → (later.registry ≡ store.registry) × (later.number ≡ store.number) → (later.failed ≡ store.failed) × (later.closed ≡ store.closed)
        → (disk.honest later.disk → disk.honest store.disk) → (disk.honest later.disk → IsArmed disk plan calls store.disk later.disk) → disk.failures later.disk ≡ disk.failures store.disk → Simulates disk (λ w v. v ≡ w) (Armed disk plan calls) old new
    used_armed_up store later was is registry fine honest armed count =
        used_armed old new store.disk later.disk other calls (ap (disks_of_server disk) was) (ap (disks_of_server disk) is) shown honest armed count stays
      where
        stays : (w : World) → NoMore (disk.may_leave store.disk) (disk.may_leave later.disk) → IsServer disk old.server old.shown.views.items w → IsServer disk new.server old.shown.views.items w
        stays w less s =
            let up : IsUp disk store other old.shown.views.items w = subst (λ x. IsServer disk x old.shown.views.items w) was s in
            subst (λ x. IsServer disk x old.shown.views.items w) (sym is) (record {
              up = up.up;
              whole = fine.0 ∙ up.whole;
              open_yet = fine.1 ∙ up.open_yet;
              registry_is = registry.0 ∙ up.registry_is;
              number = subst (λ n. n ≤ w.slot) (sym registry.1) up.number;
              on = used_on store.disk later.disk other w less count up.on;
              views_are = up.views_are;
            })

    pub used_armed_down : (d e : D) → old.server ≡ Down d other → new.server ≡ Down e other → (disk.honest e → disk.honest d) → (disk.honest e → IsArmed disk plan calls d e) → disk.failures e ≡ disk.failures d → Simulates disk (λ w v. v ≡ w) (Armed disk plan calls) old new
    used_armed_down d e was is honest armed count = used_armed old new d e other calls (ap (disks_of_server disk) was) (ap (disks_of_server disk) is) shown honest armed count stays
      where
        stays : (w : World) → NoMore (disk.may_leave d) (disk.may_leave e) → IsServer disk old.server old.shown.views.items w → IsServer disk new.server old.shown.views.items w
        stays w less s =
            let down : IsDown disk d other old.shown.views.items w = subst (λ x. IsServer disk x old.shown.views.items w) was s in
            subst (λ x. IsServer disk x old.shown.views.items w) (sym is) (record { down = down.down; none = down.none; on = used_on d e other w less count down.on })
