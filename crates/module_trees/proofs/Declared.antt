-- The trees of the two functions that may be declared.
use Rattle.std.proofs.Common.{◌≡◌, List, [], ◌∷◌, None, refl, sym, codes}
use Rattle.std.specs.List.{AllZip}
use Rattle.mc_num.specs.declared.op.Width.{Width}
use Rattle.mc_num.specs.declared.op.Width.TheVariants.{I32}
use Rattle.ir_types.specs.Program.{Program}
use Rattle.ir_types.specs.TreeOf.{IsTreeFunction, IsTreeType, AreTreeBlocks}
use Rattle.ir_types.specs.WellFormed.{getchar, putchar}
use Rattle.ir_types.specs.declared.name.Name.{Name}
use Rattle.ir_types.specs.declared.span.Span.{Span}
use Rattle.ir_types.specs.declared.syntax.Function.{Function}
use Rattle.ir_types.specs.declared.tree.RawBlock.{RawBlock}
use Rattle.ir_types.specs.declared.tree.RawFunction.{RawFunction}
use Rattle.ir_types.specs.declared.tree.RawParam.{RawParam}
use Rattle.ir_types.specs.declared.tree.Ty.TheVariants.{Int}

abbrev pub getchar_tree : Span → RawFunction
getchar_tree s = record { name = record { item = codes "getchar"; span = s }; ret = Int I32; params = []; blocks = [] }

abbrev pub putchar_tree : Span → RawFunction
putchar_tree s = record { name = record { item = codes "putchar"; span = s }; ret = Int I32; params = record { width = I32; name = None } ∷ []; blocks = [] }

no_blocks : (m : Program) (f : Function) (xs : List RawBlock) → AreTreeBlocks m f [] xs → xs ≡ []
no_blocks m f [] h = refl
no_blocks m f (x ∷ xs) h = elim h [ ]

no_params : (xs : List RawParam) → AllZip IsTreeType [] xs → xs ≡ []
no_params [] h = refl
no_params (x ∷ xs) h = elim h [ ]

one_param : (p : Width × Name) (xs : List RawParam) → AllZip IsTreeType (p ∷ []) xs → xs ≡ record { width = p.0; name = None } ∷ []
one_param p [] h = elim h [ ]
one_param p (x ∷ []) h = λ i. record { width = h.0.width i; name = h.0.named i } ∷ []
one_param p (x ∷ y ∷ xs) h = elim h.1 [ ]

pub of_getchar : (m : Program) (x : RawFunction) → IsTreeFunction m getchar x → getchar_tree x.name.span ≡ x
of_getchar m x t = λ i. record {
  name = record { item = sym t.named i; span = x.name.span };
  ret = sym t.gives i;
  params = sym (no_params x.params t.params) i;
  blocks = sym (no_blocks m getchar x.blocks t.blocks) i;
}

pub of_putchar : (m : Program) (x : RawFunction) → IsTreeFunction m putchar x → putchar_tree x.name.span ≡ x
of_putchar m x t = λ i. record {
  name = record { item = sym t.named i; span = x.name.span };
  ret = sym t.gives i;
  params = sym (one_param _ x.params t.params) i;
  blocks = sym (no_blocks m putchar x.blocks t.blocks) i;
}
