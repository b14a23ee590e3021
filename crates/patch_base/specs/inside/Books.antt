-- The books of a shelf in memory, as they are stored.
use Rattle.std.specs.String.{string_bytes}
use Rattle.patch_base.specs.MemoryShelf as seen
use Rattle.patch_base.specs.declared.memory_shelf.Book.{Book}

abbrev pub book_of : Book → seen.Book
book_of b = record { name = string_bytes b.name; bytes = b.bytes.items; faults = b.faults }
