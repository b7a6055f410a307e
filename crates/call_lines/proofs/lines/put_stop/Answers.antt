use Rattle.call_lines.proofs.lines.put_stop.Goals as goal

pub returns-in-ReadFault : goal.returns-in-ReadFault
returns-in-ReadFault g c = rw (c.in-ReadFault.is, ← c.as_bytes.ensures.value) c.put_all-in-ReadFault.ensures

pub returns-in-WriteFault : goal.returns-in-WriteFault
returns-in-WriteFault g c = rw (c.in-WriteFault.is, ← c.as_bytes-in-WriteFault.ensures.value) c.put_all-in-WriteFault.ensures

pub returns-in-OutOfMemory : goal.returns-in-OutOfMemory
returns-in-OutOfMemory g c = rw c.in-OutOfMemory.is c.put_all-in-OutOfMemory.ensures
