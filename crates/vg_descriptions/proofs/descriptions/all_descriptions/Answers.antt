use Rattle.std.proofs.Common.{◌++◌, ap, map, subst, sym}
use Rattle.vg_catalog.specs.Entries.{entry_of}
use Rattle.vg_catalog.specs.Extensions.{bits_in}
use Rattle.vg_shapes.specs.Description.{description_of}
use Rattle.vg_descriptions.specs.Descriptions.{AreOf, descriptions}
use Rattle.vg_descriptions.proofs.Entries.{names-found}
use Rattle.vg_descriptions.proofs.descriptions.all_descriptions.Goals as goal

pub entries-init : goal.entries-init
entries-init c =
    let all = map entry_of c.args.entries.now in
    record {
      is = ap (λ l. map description_of l ++ descriptions (bits_in c.args.allowed) all) c.new.ensures.items;
      are_of = subst (λ l. AreOf all (map description_of l)) (sym c.new.ensures.items) tt;
      named = names-found all c.requires.proper.names;
      written = c.requires.written;
      lanes = c.requires.lanes;
      proper = c.requires.proper.headers;
    }
