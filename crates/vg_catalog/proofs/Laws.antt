-- What a reader that gives the entries of the definition promises of the language.
use Rattle.std.proofs.Common.{ℕ, List, Result, Ok, Err, subst}
use Rattle.std.specs.Result.{IfOk}
use Rattle.vg_catalog.specs.declared.catalog.Catalog.{Catalog}
use Rattle.vg_catalog.specs.declared.fault.CatalogFault.{CatalogFault}
use Rattle.vg_catalog.specs.Catalogs.{entries_in}
use Rattle.vg_catalog.specs.Entries.{Entry}
use Rattle.vg_catalog.specs.Files.{file_of}
use Rattle.vg_catalog.specs.Gives.{Gives}
use Rattle.vg_catalog.specs.Grammar.{IsFile}
use Rattle.vg_catalog.proofs.FilesFound.{file-found}
use Rattle.vg_catalog.proofs.FilesAgain.{file-again}

pub sound : (text : List ℕ) (r : Result Catalog CatalogFault) → Gives entries_in r (file_of text) → IfOk r (λ c. IsFile text (entries_in c))
sound text (Ok c) e = file-found text (entries_in c) e
sound text (Err f) e = tt

pub complete : (text : List ℕ) (r : Result Catalog CatalogFault) → Gives entries_in r (file_of text) → (entries : List Entry) → IsFile text entries → Gives entries_in r (Ok entries)
complete text r e entries is = subst (λ (given : Result (List Entry) CatalogFault). Gives entries_in r given) (file-again text entries is) e
